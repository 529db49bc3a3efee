pub mod Epochs
pub mod NewSuperblock
pub mod Home
pub mod Pruned
pub mod FirstBlocks
pub mod Cuts
pub mod SuperblockPut
pub mod Fits
pub mod Homing
pub mod OneMore
pub mod Clears
pub mod Phases
pub mod Bits
pub mod Alike
pub mod Closing
pub mod Marked
pub mod Begun
pub mod Planned
pub mod Finished
pub mod Moved
pub mod Ends
mod PlanLacks
mod Reread
mod Rewritten
mod Done
mod Again
mod Highest
