pub mod Alike
pub mod Redrawn
pub mod Laws
