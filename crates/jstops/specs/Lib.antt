pub mod Planned
pub mod FormLines
pub mod Stops
pub mod StopLaws
