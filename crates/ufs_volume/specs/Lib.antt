pub mod Volumes
pub mod Journals
