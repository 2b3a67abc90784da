pub mod Settling
pub mod Stands
pub mod Steps
