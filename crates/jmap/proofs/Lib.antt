pub mod KindLemmas
pub mod TallyLemmas
pub mod BarLemmas
pub mod TurnLemmas
pub mod BlockLemmas
pub mod PutLemmas
pub mod MapLemmas
