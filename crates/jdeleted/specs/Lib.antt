pub mod Deleted
pub mod Finding
pub mod Naming
pub mod FlatMounts
pub mod Laws
