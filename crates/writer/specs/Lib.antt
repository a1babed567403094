pub mod Promise
pub mod Walk
pub mod Rows
