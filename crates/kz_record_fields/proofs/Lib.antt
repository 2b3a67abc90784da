mod Base64
mod Json
pub mod Floats
