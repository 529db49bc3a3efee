-- What is proved of the definitions beside, for the proofs of those who cite them.
pub mod Orders
pub mod Rising
pub mod Lookups
pub mod Pieces
pub mod Allowed
pub mod Walks
pub mod Live
pub mod Held
pub mod Renames
pub mod Starts
pub mod Histories
