pub mod Told
pub mod Lent
pub mod HeldStore
pub mod Syncs
pub mod NamesLent
pub mod AllLent
