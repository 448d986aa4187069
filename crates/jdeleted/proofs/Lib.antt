pub mod ApartLemmas
pub mod FindingLemmas
pub mod FlatLemmas
pub mod LastLemmas
pub mod NamingLemmas
pub mod ObjectLemmas
