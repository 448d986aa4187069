pub mod Held
pub mod PackLaws
pub mod Packing
pub mod Seen
