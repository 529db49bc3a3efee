-- What is cited of `ufs_dealt` by way of this crate.
pub use Rattle.ufs_dealt.specs.First.{LiveFilesAreThere}
