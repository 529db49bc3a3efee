pub mod CutLemmas
pub mod Results
pub mod TellLemmas
pub mod WordLemmas
pub mod ReplyLemmas
