pub mod Fares
pub mod Disks
pub mod Appends
