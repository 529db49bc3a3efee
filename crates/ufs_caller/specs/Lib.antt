pub mod Hands
pub mod Callers
pub mod Lists
pub mod Turns
pub mod Tied
pub mod Own
pub mod Codes
pub mod Rooms
