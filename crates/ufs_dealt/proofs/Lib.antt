mod Cutting
mod Hands
pub mod Files
mod First
