pub mod Counting
pub mod CutTexts
pub mod Cutting
pub mod Named
pub mod ReadLaws
pub mod Scanning
pub mod Streaming
