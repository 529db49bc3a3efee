pub mod Tables
pub mod Stopped
pub mod Faults
