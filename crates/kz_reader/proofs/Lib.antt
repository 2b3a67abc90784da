pub mod IdSets
pub mod OneMore
pub mod NoKey
pub mod NextRow
pub mod BodyKinds
pub mod Keeping
pub mod Numbered
pub mod ReadAhead
