pub mod Edited
pub mod Effects
pub mod Steps
