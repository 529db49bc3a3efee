pub mod Hands
pub mod TwoClients
