pub mod SectorFold
pub mod StepForms
pub mod ListLemmas
pub mod Writing
