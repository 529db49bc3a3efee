pub mod Facts
pub mod LawLemmas
pub mod StepLemmas
pub mod Rows
