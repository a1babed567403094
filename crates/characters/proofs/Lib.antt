pub mod Encode
pub mod Heads
mod Leads
pub mod Laws
pub mod Chars
pub mod Runs
mod Tables
mod Ascii
pub mod Written
pub mod Whole
mod Checked
pub mod Spelled
