pub mod Commands
pub mod Extracting
pub mod Mounting
pub mod Filling
pub mod Keepers
pub mod Keeping
pub mod Laws
pub mod Reading
