pub mod Limits
pub mod Gathered
pub mod Resources
pub mod Places
pub mod Apart
