pub mod Events
pub mod Rollbacks
pub mod Runs
pub mod Snapshots
pub mod Unread
