pub mod Standing
pub mod Lines
pub mod Planning
pub mod Telling
pub mod Cuts
pub mod Laws
pub mod ThroughLaws
pub mod Examples
