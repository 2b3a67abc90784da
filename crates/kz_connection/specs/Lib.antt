pub mod Connections
pub mod Lending
