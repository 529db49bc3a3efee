mod PlaceLemmas
mod ChangeLemmas
mod CountLemmas
mod KeptLemmas
mod StepLemmas
pub mod OwnerFacts
mod Rows
mod AwayLemmas
