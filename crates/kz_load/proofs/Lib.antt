mod Steps
mod Bytes
pub mod Made
pub mod Frames
pub mod Filled
pub mod LoadedTrees
pub mod Left
