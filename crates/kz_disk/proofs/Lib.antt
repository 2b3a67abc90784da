mod Past
pub mod Moments
mod Images
