-- What is proved of maps, for the proofs of those who cite it.
pub mod Maps
pub mod Inserts
