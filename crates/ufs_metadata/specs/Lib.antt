pub mod Lacks
pub mod Faults
pub mod Reading
pub mod Told
pub mod Superblocks
pub mod Folded
