pub mod BesideLemmas
pub mod FolderLemmas
pub mod MakingLemmas
pub mod OutputLemmas
pub mod ReadingLemmas
pub mod UntoldLemmas
