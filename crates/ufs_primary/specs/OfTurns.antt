-- What is cited of `ufs_turns` by way of this crate.
pub use Rattle.ufs_at_primary.specs.OfTurns.{counted_in, fault_told, HasStoreAlone, RunIn, Runs, sectors_in, state_in, stop_in, StopsByFault, tally_in}
