mod Reached
pub mod Numbers
pub mod Maps
mod Left
mod Causes
mod Young
mod Lending
mod Serving
