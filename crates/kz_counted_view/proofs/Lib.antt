pub mod Covered
pub mod Sums
