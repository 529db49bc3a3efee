pub mod Hints
pub mod Laws
