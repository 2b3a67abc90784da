pub mod Refusals
pub mod Kept
pub mod Changes
pub mod Requests
pub mod Wires
pub mod Lending
pub mod Loads
