pub mod MakingLemmas
pub mod ToldLemmas
pub mod VerifyLaws
