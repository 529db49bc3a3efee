mod Named
pub mod Maps
mod Indexed
pub mod Told
mod Waits
pub mod Marked
pub mod Reached
