pub mod Walked
pub mod Found
pub mod Reached
pub mod Waits
