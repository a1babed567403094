pub mod Syntax
pub mod CharClasses
pub mod Records
pub mod Stored
pub mod OneTree
pub mod Equality
pub mod Promise
pub mod Examples
