pub mod Seen
pub mod Modes
