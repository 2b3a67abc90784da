pub mod Held
pub mod Taken
pub mod Opened
pub mod Payloads
pub mod Changes
pub mod Stores
pub mod Seals
pub mod LoadCalls
