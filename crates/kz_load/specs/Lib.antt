pub mod Stops
pub mod Kept
pub mod Pending
pub mod LoadsFiles
pub mod LoadsTrees
pub mod Leaves
