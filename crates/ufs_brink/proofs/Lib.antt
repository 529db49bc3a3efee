mod Lacks
mod Freed
pub mod Starts
pub mod Read
pub mod Refused
pub mod Cleaned
pub mod Numbers
pub mod ClosedNumbers
