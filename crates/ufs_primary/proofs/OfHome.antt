-- Facts that are cited of `ufs_home` by way of this crate.
pub use Rattle.ufs_at_primary.proofs.OfHome.{all_here, has_counted, one_or_other, placed_there, put_else, put_here}
