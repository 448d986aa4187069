pub mod Expanded
pub mod Refused
pub mod Answers
