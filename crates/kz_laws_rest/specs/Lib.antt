pub mod Rest
pub mod Clients
