pub mod Ties
pub mod After
pub mod BlockLists
