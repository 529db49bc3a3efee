pub mod Addressing
pub mod Places
pub mod Rooms
