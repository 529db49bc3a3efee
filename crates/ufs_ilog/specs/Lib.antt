pub mod Deltas
pub mod Changes
pub mod Filling
pub mod Notes
