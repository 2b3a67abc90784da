pub mod Disks
pub mod Listed
pub mod Changes
pub mod Past
pub mod Memory
pub mod Stop
pub mod Files
