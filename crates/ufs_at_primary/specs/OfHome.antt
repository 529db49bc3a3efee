-- What is cited of `ufs_home` by way of this crate.
pub use Rattle.ufs_home.specs.Home.{called_for, come_on, HomeState, is_waited, onward}
pub use Rattle.ufs_home.specs.Lending.{AreAway, files_in, put_all}
pub use Rattle.ufs_home.specs.Letters.{Boxes, letter_of, LettersGo, Mailed, RingsGo}
pub use Rattle.ufs_home.specs.Moves.{IsMoved, IsOrdered, order_of}
pub use Rattle.ufs_home.specs.Owning.{server_named}
pub use Rattle.ufs_home.specs.Places.{file_here, in_place, Places, with_place}
pub use Rattle.ufs_home.specs.declared.moved.Moved.TheVariants as moved
pub use Rattle.ufs_home.specs.declared.moved.Moved.{Moved}
