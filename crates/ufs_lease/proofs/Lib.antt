mod NameLemmas
mod BelowLemmas
mod Rows
