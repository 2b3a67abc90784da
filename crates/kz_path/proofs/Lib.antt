pub mod KeyParts
pub mod Lengths
pub mod NameBuffers
