pub mod Steps
pub mod Appends
pub mod Events
