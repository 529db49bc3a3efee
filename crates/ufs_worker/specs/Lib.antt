pub mod Worker
pub mod Turns
