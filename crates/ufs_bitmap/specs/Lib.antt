pub mod Blocks
pub mod Words
pub mod Space
pub mod Taking
pub mod Owners
