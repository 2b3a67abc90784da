pub mod Entries
pub mod Linear
mod Pieces
