pub mod Units
pub mod Spans
pub mod Regions
pub mod RegionText
pub mod Laws
