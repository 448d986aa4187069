pub mod Pieces
pub mod Overlays
pub mod IntervalMap
pub mod Laws
pub mod Layouts
pub mod Intervals
pub mod Plain
pub mod Examples
