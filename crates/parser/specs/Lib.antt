pub mod Storing
pub mod Steps
pub mod Shapes
pub mod Lists
