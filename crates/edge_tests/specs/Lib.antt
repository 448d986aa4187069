pub mod Changes
pub mod Events
