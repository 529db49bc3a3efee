pub mod TableLemmas
pub mod RangeLemmas
pub mod FaultLemmas
pub mod Lists
pub mod Replies
pub mod OwnLemmas
