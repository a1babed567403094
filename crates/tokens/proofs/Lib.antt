pub mod Ends
pub mod Stream
pub mod Stops
