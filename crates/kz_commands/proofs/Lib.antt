pub mod Disks
pub mod Opened
pub mod Sealed
pub mod Fresh
pub mod Made
pub mod Left
pub mod Grown
