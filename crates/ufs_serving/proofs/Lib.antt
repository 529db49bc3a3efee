mod Again
mod Counting
pub mod Conserving
mod Lending
mod Filling
pub mod Asked
pub mod Told
mod Sizes
pub mod Answering
pub mod Lacking
pub mod Letters
pub mod Visits
