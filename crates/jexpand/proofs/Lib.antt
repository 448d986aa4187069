pub mod SightedLemmas
pub mod NodeLemmas
