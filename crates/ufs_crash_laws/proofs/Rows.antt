-- Worked rows: what a crash may leave after a few requests, and what each definition says of a small case.
pub mod Sessions
pub mod Bytes
pub mod Requests
pub mod OneFile
pub mod Appended
pub mod Rewritten
pub mod Replaced
pub mod Synced
pub mod Meanwhile
