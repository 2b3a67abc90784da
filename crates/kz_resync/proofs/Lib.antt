pub mod Lasts
pub mod Rests
