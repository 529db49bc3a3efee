pub mod Nodes
pub mod NameTable
pub mod Records
pub mod Notes
