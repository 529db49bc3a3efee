pub mod Dealt
pub mod First
