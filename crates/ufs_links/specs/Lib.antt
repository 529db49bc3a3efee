pub mod Chains
pub mod Kept
pub mod Linked
pub mod NodeLists
pub mod Nodes
pub mod Numbered
pub mod Pointers
