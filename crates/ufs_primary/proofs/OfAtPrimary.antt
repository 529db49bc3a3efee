-- Facts that are cited of `ufs_at_primary` by way of this crate.
pub use Rattle.ufs_at_primary.proofs.Excuses.{no_fault}
