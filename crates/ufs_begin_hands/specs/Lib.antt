pub mod Seen
pub mod Mounted
pub mod Values
