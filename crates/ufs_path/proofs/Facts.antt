-- What is proved of the definitions beside, for the proofs of those who cite it.
pub mod Joined
