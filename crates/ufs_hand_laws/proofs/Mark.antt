-- An event without an entry keeps each part of the sound state.
pub mod Setting
pub mod Hands
pub mod History
pub mod Blocks
pub mod Numbers
pub mod Disk
pub mod Holds
pub mod Clock
pub mod Faults
pub mod Explained
pub mod Leases
