pub mod Limits
pub mod Parser
pub mod Expressions
pub mod Members
pub mod Declarations
