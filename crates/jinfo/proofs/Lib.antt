pub mod CensusLemmas
pub mod FirstLemmas
pub mod LineLemmas
pub mod SizeLemmas
pub mod TallyLemmas
