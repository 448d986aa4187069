pub mod Json
pub mod Laws
pub mod Numbers
pub mod Shapes
pub mod Sinks
pub mod Tables
pub mod Texts
pub mod Words
