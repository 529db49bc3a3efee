-- Each event is a remake of its hand's parts.
pub mod Staying
pub mod Moving
pub mod Turning
pub mod Passing
pub mod Telling
pub mod FileCommit
pub mod NameCommit
pub mod Failing
pub mod Checking
pub mod Answering
