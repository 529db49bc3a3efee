pub mod Lists
mod Noting
