mod Runs
mod Points
mod Labels
mod Lone
mod Data
mod Views
mod Opened
mod Copy
mod Pieces
mod LabelRuns
mod Calm
mod Begun
mod Ended
mod Openings
mod Faulty
pub mod Counting
pub mod Following
