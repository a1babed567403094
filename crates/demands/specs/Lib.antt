pub mod Demands
pub mod Loops
