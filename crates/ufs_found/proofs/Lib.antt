pub mod Buckets
pub mod Noted
mod OffLemmas
mod ReadSector
mod ReadThere
pub mod Turns
pub mod Windows
