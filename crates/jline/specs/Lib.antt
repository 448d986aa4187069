pub mod Damages
pub mod Paths
pub mod Read
pub mod Words
