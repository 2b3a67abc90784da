pub mod Given
pub mod Clients
pub mod Lawful
pub mod Scripts
