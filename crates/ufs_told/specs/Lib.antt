pub mod MayBegin
pub mod Replies
pub mod Numbers
pub mod Told
pub mod Throughout
pub mod Sizes
