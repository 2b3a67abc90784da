pub mod BrokerPaths
pub mod ChildPaths
pub mod Counts
pub mod Ephemerals
pub mod LastSlash
pub mod Looks
pub mod Pages
