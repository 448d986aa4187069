pub mod TakenLemmas
pub mod RunLemmas
pub mod StayLemmas
