pub mod Asked
pub mod Updating
pub mod Commands
pub mod Laws
