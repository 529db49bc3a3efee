-- What is cited of `ufs_turns` by way of this crate.
pub use Rattle.ufs_turns.specs.HeldStore.{counted_in, HasStoreAlone, sectors_in, state_in}
pub use Rattle.ufs_turns.specs.Lent.{AreTold, RunIn, Runs, stop_in, StopsByFault, tally_in}
pub use Rattle.ufs_turns.specs.Told.{fault_told}
