pub mod Quiet
pub mod Outside
mod Superblocks
mod Blocks
mod Pieces
mod Rows
