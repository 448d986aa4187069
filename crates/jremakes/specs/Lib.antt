pub mod Asked
pub mod Compacting
pub mod CompactingApart
pub mod Judging
pub mod Leaving
pub mod Putting
pub mod Commands
pub mod Laws
