pub mod Shelves
pub mod Lending
mod Joining
mod Posting
mod Knowing
mod Going
mod Ordering
mod Stating
