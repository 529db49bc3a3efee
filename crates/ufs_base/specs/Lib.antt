pub mod Choices
pub mod Faults
pub mod Images
pub mod Order
pub mod Wanting
