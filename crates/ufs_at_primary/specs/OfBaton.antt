-- What is cited of `ufs_baton` by way of this crate.
pub use Rattle.ufs_baton.specs.Baton.{IsDrawnWith, IsToldOf}
