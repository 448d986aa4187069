pub mod ForetellLaws
pub mod Foretelling
pub mod ForetoldTexts
pub mod UpdateTexts
