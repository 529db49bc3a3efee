-- What is cited of `ufs_caller` by way of this crate.
pub use Rattle.ufs_caller.specs.Callers.{entries_in}
pub use Rattle.ufs_caller.specs.declared.told.Told.{Told}
