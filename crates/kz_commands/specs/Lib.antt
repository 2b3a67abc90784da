pub mod Outside
pub mod Stops
pub mod Opening
pub mod Sealing
pub mod Makes
pub mod Making
