pub mod OnDisk
pub mod Beside
pub mod ToldLemmas
pub mod CausedLemmas
mod ToldRows
pub mod ThroughoutLemmas
