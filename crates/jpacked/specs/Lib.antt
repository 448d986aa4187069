pub mod Accepting
pub mod Forms
pub mod View
pub mod Writing
