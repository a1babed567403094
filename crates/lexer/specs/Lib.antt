pub mod Tokens
pub mod Escapes
pub mod Sets
pub mod Promise
