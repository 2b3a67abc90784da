pub mod Opened
pub mod Stores
