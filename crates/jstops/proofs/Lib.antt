pub mod FormLemmas
pub mod ToldLemmas
pub mod PlannedLemmas
pub mod StopLemmas
pub mod LawLemmas
