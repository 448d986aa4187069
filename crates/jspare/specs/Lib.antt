pub mod Spare
pub mod Paging
pub mod Finding
pub mod Laws
pub mod Showing
pub mod Regions
pub mod Parts
