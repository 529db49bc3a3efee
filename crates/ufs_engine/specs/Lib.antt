pub mod Asked
pub mod Left
pub mod Served
pub mod Stamped
pub mod Plays
pub mod Played
