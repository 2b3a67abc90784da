pub mod Bounds
pub mod Events
