pub mod Reading
pub mod Calls
pub mod Program
pub mod Marked
pub mod Examples
