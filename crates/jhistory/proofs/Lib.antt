pub mod NewestLemmas
pub mod TellingLemmas
pub mod TotalsLemmas
pub mod WordsLemmas
