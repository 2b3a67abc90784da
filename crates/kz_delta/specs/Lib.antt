pub mod Placed
pub mod Feeds
