pub mod ForetoldLemmas
pub mod ForetellLaws
pub mod LoadLemmas
