pub mod Buffers
pub mod Ends
pub mod Orders
pub mod Runs
