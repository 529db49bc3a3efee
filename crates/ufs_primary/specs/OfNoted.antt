-- What is cited of `ufs_noted` by way of this crate.
pub use Rattle.ufs_at_primary.specs.OfNoted.{KnownFile, Noted}
