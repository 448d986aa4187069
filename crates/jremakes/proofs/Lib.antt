pub mod BlamedLemmas
pub mod CompactingLemmas
pub mod FaultLemmas
pub mod JudgedLemmas
pub mod LeavingLemmas
pub mod LeftLemmas
pub mod PuttingLemmas
pub mod ShownLemmas
