pub mod Filled
pub mod Applied
