pub mod SetLemmas
pub mod MemberLemmas
pub mod WordLemmas
pub mod TakingLemmas
pub mod OwnerLemmas
