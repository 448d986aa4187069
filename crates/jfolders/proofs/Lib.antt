pub mod BlameLaws
pub mod EndLemmas
pub mod ExtractingLemmas
pub mod FillLaws
mod FirstLemmas
pub mod FolderSteps
pub mod KeeperLemmas
pub mod KnownLemmas
pub mod ReadLaws
