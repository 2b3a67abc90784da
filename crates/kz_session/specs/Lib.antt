pub mod Sessions
pub mod Memory
