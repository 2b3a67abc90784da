pub mod Sessions
pub mod Reserved
pub mod Rules
pub mod Further
pub mod Pairs
pub mod Lines
pub mod Inputs
