pub mod RunLemmas
pub mod RunLawLemmas
