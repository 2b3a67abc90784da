pub mod Telling
pub mod Lists
