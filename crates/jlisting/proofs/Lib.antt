pub mod SplitLemmas
pub mod ListingLemmas
pub mod WordLemmas
pub mod NumberLemmas
pub mod RuleLemmas
pub mod BrokenLemmas
