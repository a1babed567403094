pub mod Utf8
pub mod Places
pub mod Spans
pub mod Alphabetic
pub mod Classes
pub mod Promise
