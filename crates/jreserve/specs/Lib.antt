pub mod Erased
pub mod Reserve
pub mod Note
