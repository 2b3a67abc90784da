pub mod Disks
pub mod Faults
pub mod Requests
pub mod Rollbacks
pub mod Stops
