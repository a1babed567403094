pub mod Answers
pub mod Bounds
pub mod Version
pub mod Demands
