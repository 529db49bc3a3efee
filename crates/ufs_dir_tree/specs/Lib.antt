pub mod DirTable
pub mod DirCalls
pub mod DirEdits
pub mod Space
pub mod Steps
