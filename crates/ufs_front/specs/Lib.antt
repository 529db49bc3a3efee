pub mod Padded
pub mod Fronts
