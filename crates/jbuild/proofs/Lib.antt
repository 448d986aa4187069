pub mod FrontLemmas
pub mod EmitLemmas
pub mod LengthLemmas
pub mod BlocksLemmas
mod PartLemmas
mod ReadLemmas
mod SpanLemmas
