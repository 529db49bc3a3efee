pub mod Drawing
pub mod After
pub mod Excusing
pub mod Birth
pub mod Together
pub mod Stopping
pub mod Replying
pub mod Few
