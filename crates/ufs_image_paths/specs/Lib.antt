pub mod Placed
pub mod Opened
