pub mod PathBuffers
pub mod Tables
pub mod Prefixes
