-- What is cited of `ufs_home` by way of this crate.
pub use Rattle.ufs_at_primary.specs.OfHome.moved as moved
pub use Rattle.ufs_at_primary.specs.OfHome.{AreAway, Boxes, file_here, files_in, HomeState, in_place, is_waited, IsMoved, IsOrdered, letter_of, LettersGo, Mailed, Moved, order_of, Places, put_all, RingsGo, server_named, with_place}
