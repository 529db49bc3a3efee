pub mod FillingLemmas
pub mod DeltaLemmas
pub mod OrderLemmas
