pub mod Pasts
pub mod PastText
pub mod Spans
pub mod PastExamples
