pub mod Lists
pub mod Steps
pub mod Over
pub mod Seen
