pub mod Halves
pub mod Ties
pub mod ItemsOf
pub mod BlockFor
pub mod Changes
pub mod Parts
pub mod AfterLemmas
