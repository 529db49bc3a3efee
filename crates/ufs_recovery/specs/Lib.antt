pub mod Cleared
pub mod Finished
pub mod Fitted
pub mod Home
pub mod Marks
pub mod Orphans
pub mod Recovered
