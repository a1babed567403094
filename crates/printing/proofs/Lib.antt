pub mod Decimals
pub mod Inputs
pub mod Lines
