pub mod Generator
pub mod Workload
pub mod Schedule
pub mod Summary
