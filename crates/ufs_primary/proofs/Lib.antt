mod Turning
mod Oldest
mod Waits
mod Doing
mod Rooms
pub mod OfAtPrimary
pub mod OfHome
