mod FewBytes
mod Growing
mod Cutting
mod ReadingPieces
mod ShortRecords
mod SameRecords
pub mod Payloads
mod Taking
