mod LookupLemmas
mod NameLemmas
mod NamespaceLemmas
mod PlacedLemmas
mod OpenedLemmas
