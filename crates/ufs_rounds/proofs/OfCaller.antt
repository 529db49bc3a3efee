-- Facts that are cited of `ufs_caller` by way of this crate.
pub use Rattle.ufs_caller.proofs.Made.{by_the_primary}
