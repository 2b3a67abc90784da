pub mod Branches
pub mod Ends
pub mod Facts
pub mod Fences
pub mod Held
pub mod Keeping
pub mod Steps
pub mod Told
