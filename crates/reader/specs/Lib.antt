pub mod Words
pub mod Places
pub mod Groups
pub mod Blocks
pub mod Directives
pub mod Ahead
pub mod Whole
