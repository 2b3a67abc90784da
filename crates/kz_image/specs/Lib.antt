pub mod Names
pub mod QuotaPaths
pub mod Faults
