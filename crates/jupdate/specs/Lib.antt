pub mod Accepting
pub mod OneProof
pub mod Rows
pub mod SessionIn
pub mod Updates
pub mod View
pub mod Writing
