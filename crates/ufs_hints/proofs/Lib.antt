pub mod Uses
mod Ages
