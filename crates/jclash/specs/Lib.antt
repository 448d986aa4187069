pub mod Parting
pub mod Lowest
pub mod Keys
pub mod Laws
