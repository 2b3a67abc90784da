pub mod Ends
pub mod Halving
pub mod LaterLemmas
pub mod Numbering
pub mod PartLemmas
pub mod Sizes
