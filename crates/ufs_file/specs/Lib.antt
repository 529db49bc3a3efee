pub mod Lists
pub mod Content
pub mod Span
pub mod Table
pub mod Hand
