pub mod Writable
pub mod Lawful
