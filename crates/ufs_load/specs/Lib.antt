pub mod Choice
pub mod Laws
pub mod Plan
pub mod Steps
