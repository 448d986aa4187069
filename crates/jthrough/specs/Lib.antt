pub mod Addressed
pub mod MountsThrough
pub mod Plain
pub mod Refusals
pub mod View
