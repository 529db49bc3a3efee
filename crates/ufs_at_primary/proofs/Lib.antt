mod NamesTold
pub mod Excuses
mod DirsTold
mod AllTold
mod SyncedHere
mod Beside
mod Freeing
pub mod AtHome
pub mod Rooms
mod Trials
mod Outcomes
mod Births
pub mod Raised
mod Seen
pub mod OfServing
pub mod OfBaton
pub mod OfHome
