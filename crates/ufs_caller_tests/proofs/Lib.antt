pub mod Excusing
pub mod Ending
