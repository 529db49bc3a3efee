pub mod Begins
pub mod Laws
pub mod Closes
pub mod Numbers
