pub mod Whole
pub mod Entries
pub mod Puts
pub mod Spaced
pub mod FileEntries
pub mod Places
pub mod Reading
pub mod Alike
pub mod Zeros
mod Steps
pub mod Numbered
pub mod Unfresh
mod NameCommits
mod Live
mod OneDelta
pub mod FileDone
pub mod FileCommits
pub mod FileSettles
mod NamesLaw
mod Fresh
mod Blocks
mod NameEntries
mod NewFiles
mod NotesLaw
pub mod Pools
mod OnDisk
mod Stopping
pub mod Always
pub mod Stamping
pub mod Stretches
pub mod Births
pub mod Known
pub mod Last
pub mod BlocksApart
pub mod Filed
pub mod TreeNamed
pub mod Parted
pub mod PathTexts
pub mod Started
mod Extents
pub mod Forms
mod Tabled
mod Bare
mod Growing
pub mod Putting
pub mod RecordsTold
pub mod Covers
mod Sounded
mod Committed
mod FreshZeros
mod Joined
mod Commits
pub mod Files
mod NamesKept
pub mod TableNames
mod Orders
mod Sized
mod CallNames
mod NumberedNames
mod FileForms
pub mod Noted
mod NumberedPaths
mod NamesGoing
pub mod ListedBlocks
mod RequestNewFiles
mod Owners
mod Emptied
pub mod Numbers
mod SoundNames
mod Sounds
mod RequestSpaced
pub mod RequestOnDisk
pub mod Serving
pub mod EventsGoing
pub mod Sound
pub mod CommitsTold
pub mod Syncing
mod LiveFiles
pub mod Failing
pub mod Writing
pub mod Ready
pub mod Forgetting
mod Meanwhile
pub mod Fetching
