pub mod Joined
mod Homes
mod Histories
mod Throughout
mod AllThere
mod Lengths
mod AtEnd
pub mod Cleaned
mod Remaining
mod Left
mod Raised
