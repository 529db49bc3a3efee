pub mod Gathered
pub mod Ended
pub mod Finished
