pub mod Values
pub mod Changes
pub mod Records
pub mod Deep
pub mod Fits
pub mod PlainRecords
pub mod Plain
pub mod Read
