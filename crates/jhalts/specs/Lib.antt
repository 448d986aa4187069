pub mod InShares
pub mod Walk
pub mod InRow
pub mod RowLines
pub mod Halts
pub mod HaltLaws
