pub mod Tests
pub mod Same
pub mod Lists
