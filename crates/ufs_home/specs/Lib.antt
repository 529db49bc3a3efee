pub mod Stages
pub mod Places
pub mod Lending
pub mod Letters
pub mod Owning
pub mod Home
pub mod Moves
