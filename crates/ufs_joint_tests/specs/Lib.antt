pub mod Small
pub mod Row
pub mod NamesRow
