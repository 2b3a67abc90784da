pub mod Taken
pub mod Payloads
pub mod Pieces
