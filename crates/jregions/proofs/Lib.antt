pub mod TouchedLemmas
pub mod SpanLemmas
pub mod UnitLemmas
