pub mod Beside
pub mod Failing
pub mod Outputs
pub mod Places
pub mod Quiet
pub mod Reasons
