pub mod Areas
pub mod Kept
pub mod Loads
pub mod Moves
pub mod Multis
pub mod Owned
pub mod Steps
pub mod Zxids
