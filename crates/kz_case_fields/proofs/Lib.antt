pub mod Digits
pub mod FewBytes
