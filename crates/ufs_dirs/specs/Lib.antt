pub mod Directory
pub mod Index
pub mod Changes
pub mod Reading
pub mod Names
