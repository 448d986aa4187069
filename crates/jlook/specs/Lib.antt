pub mod Chosen
pub mod Laws
pub mod Look
pub mod Looked
pub mod Looks
