mod Appends
mod Loops
mod Numbers
pub mod ReadBack
