-- What is cited of `ufs_begin_hands` by way of this crate.
pub use Rattle.ufs_begin_hands.specs.Mounted.{beginning_of}
pub use Rattle.ufs_begin_hands.specs.Seen.{sees}
pub use Rattle.ufs_begin_hands.specs.Values.{value_of}
