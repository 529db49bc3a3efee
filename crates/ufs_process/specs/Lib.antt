pub mod Views
pub mod Counts
pub mod Refusals
pub mod Joining
pub mod Throughout
pub mod Mirrored
