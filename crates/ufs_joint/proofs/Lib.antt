pub mod Kept
pub mod Disks
pub mod Blocks
pub mod Exchange
pub mod Takes
pub mod Picking
pub mod FaultsTold
pub mod Parting
pub mod NoneLost
pub mod Served
pub mod DrawSteps
pub mod TurnEnding
pub mod Passing
pub mod OneFile
pub mod FileDraws
pub mod FileTurns
pub mod FileFailures
pub mod Reading
pub mod FileFetches
pub mod Checkpointing
pub mod StillDraws
pub mod StillKinds
pub mod FileAcks
pub mod FileExcuses
pub mod Exchanging
pub mod TellingCommits
pub mod HandFiles
pub mod NamesDraws
pub mod NamesAcks
pub mod NamesExcuses
pub mod NamesTurning
pub mod Reclaiming
pub mod Steps
pub mod Ends
pub mod Few
pub mod Knowing
pub mod Moving
pub mod Telling
pub mod Ruling
pub mod Covering
pub mod Drawn
mod Everything
mod Acks
mod Draws
mod Stages
mod Born
mod Meanwhile
mod Failing
mod Syncing
mod Writing
pub mod Forgetting
pub mod Pools
mod Fetching
mod Lent
mod Beside
mod More
mod FreeBlocks
mod Lists
mod Trees
mod Commits
mod Beginning
