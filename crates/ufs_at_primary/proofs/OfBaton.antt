-- Facts that are cited of `ufs_baton` by way of this crate.
pub use Rattle.ufs_baton.proofs.Since.{drawn_with}
