pub mod Revisions
pub mod Tiles
pub mod Taking
pub mod Answers
pub mod Laws
