pub mod WriteLemmas
mod PieceLemmas
mod ListLines
pub mod PrintLemmas
pub mod TextLemmas
pub mod DamageLemmas
