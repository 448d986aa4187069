pub mod Making
pub mod Seen
pub mod Verified
pub mod VerifyLaws
pub mod Verifying
