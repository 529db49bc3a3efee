mod Lists
mod Marked
mod Known
mod NamesTwice
mod LowestBlamed
pub mod AllDamage
mod UsedBlocks
pub mod Bits
