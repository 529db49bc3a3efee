-- Facts that are cited of `ufs_serving` by way of this crate.
pub use Rattle.ufs_serving.proofs.Answering.{all_said-more}
