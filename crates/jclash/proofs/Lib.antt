pub mod PartLemmas
pub mod KeyLemmas
pub mod LowestLemmas
