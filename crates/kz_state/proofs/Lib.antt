pub mod Floats
pub mod Json
