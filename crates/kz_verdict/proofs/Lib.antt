pub mod Agreements
pub mod NextPaths
