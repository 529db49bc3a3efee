pub mod ByteLemmas
pub mod FileLemmas
pub mod OwnLemmas
pub mod BelowLemmas
pub mod Facts
