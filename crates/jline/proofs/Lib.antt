pub mod EscapeLemmas
pub mod PathLemmas
pub mod ReadLemmas
pub mod TurnLemmas
pub mod WordLemmas
