pub mod Batches
pub mod Kept
pub mod Looks
pub mod Losses
pub mod Pages
pub mod Requests
pub mod Writings
