pub mod Printed
pub mod Whole
