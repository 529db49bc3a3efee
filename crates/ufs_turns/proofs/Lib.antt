pub mod Hands
pub mod Repeated
pub mod Turning
pub mod Syncing
pub mod Emptying
pub mod Pools
pub mod Runs
pub mod Committing
pub mod Reclaiming
mod FreeBlocks
