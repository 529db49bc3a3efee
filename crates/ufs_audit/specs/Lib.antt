pub mod Audit
pub mod Following
pub mod Sources
pub mod Ends
pub mod Laws
