pub mod Reports
pub mod Tells
