pub mod LawLemmas
pub mod MountLemmas
pub mod TakingLemmas
