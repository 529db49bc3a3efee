pub mod Slots
pub mod Descriptors
