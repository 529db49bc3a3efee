pub mod OneHand
pub mod Apart
pub mod Drawn
