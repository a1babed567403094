pub mod Promise
pub mod Sources
pub mod Blocks
