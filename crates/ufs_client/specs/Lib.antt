pub mod Played
pub mod Clients
pub mod Own
