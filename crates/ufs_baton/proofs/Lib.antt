mod Hands
pub mod Since
