pub mod Trace
pub mod Replies
