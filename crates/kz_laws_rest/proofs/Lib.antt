pub mod Idle
pub mod Told
pub mod Rest
pub mod Clients
