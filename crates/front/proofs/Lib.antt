pub mod Outcomes
pub mod Differences
pub mod Writes
pub mod Responses
pub mod Laws
