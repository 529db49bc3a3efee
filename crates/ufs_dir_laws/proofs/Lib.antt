pub mod Walked
mod Extents
mod Made
pub mod PlainNames
pub mod Tables
pub mod WholeDirs
