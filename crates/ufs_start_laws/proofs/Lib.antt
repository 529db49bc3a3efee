mod Facts
mod Kept
mod Owned
mod Begun
mod Opened
