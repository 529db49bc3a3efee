pub mod Lending
pub mod NamesLending
