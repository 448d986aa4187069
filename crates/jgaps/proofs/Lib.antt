pub mod GapLemmas
pub mod SweptLemmas
pub mod MaximalLemmas
pub mod SortedLemmas
pub mod NodeLemmas
