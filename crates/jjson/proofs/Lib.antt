pub mod JsonLemmas
pub mod LineLemmas
pub mod PutLemmas
pub mod ShapeLemmas
pub mod SplitLemmas
pub mod TextLemmas
pub mod WordLemmas
