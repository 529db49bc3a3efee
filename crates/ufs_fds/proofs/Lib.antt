pub mod SlotLemmas
pub mod LowestLemmas
pub mod HoldLemmas
