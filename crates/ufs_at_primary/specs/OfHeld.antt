-- What is cited of `ufs_held` by way of this crate.
pub use Rattle.ufs_held.specs.Serving.{Applied, IsServeCause, Unread}
pub use Rattle.ufs_held.specs.Stopping.{ExcusesByStop, fault_by, Raises, RestsByReply, StopsByReply, TellsItsStop}
pub use Rattle.ufs_held.specs.Together.{HasThemToo, under_numbers}
