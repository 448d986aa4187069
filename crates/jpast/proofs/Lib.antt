pub mod SpanLemmas
pub mod ContentLemmas
pub mod FindingLemmas
