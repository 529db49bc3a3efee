-- What is cited of `ufs_noted` by way of this crate.
pub use Rattle.ufs_noted.specs.Noted.{Noted}
pub use Rattle.ufs_noted.specs.declared.known.KnownFile.{KnownFile}
