-- What is cited of `ufs_baton` by way of this crate.
pub use Rattle.ufs_at_primary.specs.OfBaton.{IsDrawnWith}
