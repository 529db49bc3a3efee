pub mod Changed
pub mod Clients
pub mod Lacks
pub mod Owners
pub mod Records
pub mod Counted
