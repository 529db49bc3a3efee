-- Facts that are cited of `ufs_home` by way of this crate.
pub use Rattle.ufs_home.proofs.Lending.{all_here, has_counted}
pub use Rattle.ufs_home.proofs.Shelves.{one_or_other, placed_there, put_else, put_here}
