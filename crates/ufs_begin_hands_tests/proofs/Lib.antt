pub mod Counted
mod Gathering
