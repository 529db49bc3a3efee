-- What is cited of `ufs_turns` by way of this crate.
pub use Rattle.ufs_primary.specs.OfTurns.{counted_in, sectors_in, state_in, tally_in}
