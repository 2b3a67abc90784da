pub mod Joining
pub mod LevelLemmas
