pub mod Findings
pub mod Told
pub mod Meaning
pub mod Kinds
pub mod Marks
pub mod Known
pub mod Lowest
pub mod Taken
