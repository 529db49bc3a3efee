pub mod SplitLemmas
pub mod FaultLemmas
pub mod NameLemmas
pub mod KeptLemmas
pub mod Rows
pub mod Facts
