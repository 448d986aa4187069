pub mod Fields
pub mod Gaps
pub mod Sweeping
pub mod Laws
