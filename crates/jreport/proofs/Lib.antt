mod FoundLemmas
mod NoNodesLemmas
pub mod AheadLemmas
pub mod BlockLemmas
pub mod FaultLemmas
pub mod GrowingLemmas
pub mod ListedOnceLemmas
pub mod ListingLemmas
pub mod PartLemmas
pub mod PartPutLemmas
pub mod WholeImageLemmas
pub mod PathTextLemmas
pub mod PutLemmas
pub mod RefusalLemmas
pub mod RememberingLemmas
pub mod StreamLemmas
pub mod ExtentLemmas
pub mod VerdictLemmas
pub mod WalkLemmas
pub mod PathLemmas
pub mod SinkLemmas
