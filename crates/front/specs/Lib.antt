pub mod Outcomes
pub mod Differences
pub mod Respond
pub mod Promise
pub mod Laws
