pub mod BuiltLemmas
pub mod EndLemmas
pub mod FilledLemmas
pub mod LoadLemmas
pub mod ShownLemmas
pub mod UpdateLaws
