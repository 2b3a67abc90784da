pub mod Ends
pub mod Replaying
