pub mod Compacted
pub mod Examples
pub mod Laws
pub mod Matters
pub mod Reaching
pub mod Taking
