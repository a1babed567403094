pub mod Writes
pub mod Digits
