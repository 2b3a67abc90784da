pub mod Rows
pub mod Drivers
pub mod Checks
pub mod Claims
pub mod Disks
pub mod Migrations
pub mod Writes
