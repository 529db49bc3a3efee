-- A look and a tick keep each part of the sound state.
pub mod Setting
pub mod Hands
pub mod History
pub mod Blocks
pub mod Numbers
pub mod Explained
pub mod Leases
pub mod Faults
pub mod Word
