pub mod Words
pub mod Requests
pub mod Lines
pub mod Schedule
pub mod Script
pub mod Reading
pub mod Spelling
pub mod Output
