pub mod AutoLaws
pub mod Leaving
pub mod Looking
pub mod Taking
pub mod TakingText
