-- What is cited of `ufs_held` by way of this crate.
pub use Rattle.ufs_at_primary.specs.OfHeld.{Applied, ExcusesByStop, fault_by, HasThemToo, IsServeCause, Raises, RestsByReply, StopsByReply, TellsItsStop, under_numbers, Unread}
