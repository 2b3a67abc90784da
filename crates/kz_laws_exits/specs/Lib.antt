pub mod Rollbacks
pub mod Ends
