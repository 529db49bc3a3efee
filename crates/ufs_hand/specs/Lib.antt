pub mod Session
pub mod Codes
