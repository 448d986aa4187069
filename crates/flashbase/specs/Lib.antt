pub mod Bytes
pub mod Crc
pub mod Device
pub mod Laws
pub mod Lists
pub mod Ranges
pub mod Sinks
