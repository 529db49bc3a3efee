pub mod Off
pub mod Parts
pub mod Read
pub mod Sorted
