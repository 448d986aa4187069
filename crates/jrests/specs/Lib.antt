pub mod Begun
pub mod Openings
pub mod Shares
pub mod Left
pub mod BegunLaws
pub mod LeftLaws
pub mod Survives
pub mod Examples
