pub mod Clean
pub mod Tiles
pub mod Collecting
pub mod Planning
pub mod Through
pub mod PlanningThrough
pub mod Staying
pub mod PlanningApart
