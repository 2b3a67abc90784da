pub mod Floats
mod Json
