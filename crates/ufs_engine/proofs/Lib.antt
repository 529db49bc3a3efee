mod Rooms
mod Within
mod Walking
mod Along
pub mod StampedLemmas
pub mod EndLemmas
mod PlayedLemmas
mod Ending
mod Clients
mod Leaving
mod Running
