pub mod Leasts
