pub mod WordLemmas
pub mod SeenLemmas
pub mod LineLemmas
pub mod ReadLemmas
pub mod ReasonLemmas
pub mod ListingLemmas
pub mod PutLemmas
pub mod OrderLemmas
mod TreeLemmas
mod WalkLemmas
mod NoteLemmas
mod CompleteLemmas
mod SoFarLemmas
mod LinkLemmas
mod PathOrderLemmas
mod WalkOrderLemmas
