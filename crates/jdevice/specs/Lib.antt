pub mod Blank
pub mod Taken
pub mod Run
pub mod Line
pub mod Laws
