pub mod BareHands
pub mod Passing
pub mod Rooms
pub mod Sessions
pub mod TwoClients
