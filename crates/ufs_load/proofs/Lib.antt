pub mod ChoiceLemmas
pub mod LoadLemmas
pub mod SquareLemmas
