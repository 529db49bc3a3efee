pub mod Baton
