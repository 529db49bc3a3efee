pub mod Cells
pub mod Files
pub mod Steps
pub mod Runs
pub mod Marks
pub mod WriteMarks
