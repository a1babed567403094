pub mod Spelling
pub mod NormalText
pub mod Examples
