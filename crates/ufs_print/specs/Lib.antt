pub mod Lines
pub mod Pieces
pub mod Printed
pub mod TreeLines
pub mod DamageLines
