-- A change of leases keeps each part of the sound state.
pub mod Setting
pub mod Hands
pub mod History
pub mod Leases
pub mod Blocks
pub mod Numbers
pub mod Disk
pub mod Holds
pub mod Faults
pub mod Clock
pub mod Asked
