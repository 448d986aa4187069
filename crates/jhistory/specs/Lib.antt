pub mod NodeWords
pub mod NewestEntries
pub mod HistoryText
pub mod HistoryLaws
pub mod WordExamples
