pub mod AddressedLemmas
pub mod MountLemmas
pub mod PlacedLemmas
pub mod PlainLemmas
pub mod RefusalLemmas
pub mod ViewLemmas
