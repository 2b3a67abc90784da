mod Appended
mod Crashes
mod Created
mod Files
mod FoundTests
mod Gates
mod Headers
mod Heads
mod Reading
mod Sealed
mod Shutting
pub mod Steps
pub mod Stops
