pub mod Refusals
pub mod Rollbacks
pub mod Sending
pub mod Stops
