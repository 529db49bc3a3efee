pub mod Pools
pub mod Sending
pub mod Posts
pub mod Serving
