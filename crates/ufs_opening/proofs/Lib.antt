mod Why
mod Rows
mod Fronts
pub mod Lengths
mod Trees
mod Forms
