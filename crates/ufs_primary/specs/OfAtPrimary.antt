-- What is cited of `ufs_at_primary` by way of this crate.
pub use Rattle.ufs_at_primary.specs.Dirs.{IsDirDone}
pub use Rattle.ufs_at_primary.specs.Excused.{excuse_at}
pub use Rattle.ufs_at_primary.specs.Here.{IsDoneHere}
pub use Rattle.ufs_at_primary.specs.Named.{server_at, server_told}
pub use Rattle.ufs_at_primary.specs.Orders.{IsFileOrdered, IsReadied}
pub use Rattle.ufs_at_primary.specs.Room.{AreTidiedFiles, IsRoomMade}
pub use Rattle.ufs_at_primary.specs.Served.{All, ByNames, IsAllHere, IsByNamesHere, IsLackedHere, IsOnFileHere, IsOnNoneHere, IsServed, IsServedInRoom, Lacked, OnFile, OnNone}
pub use Rattle.ufs_at_primary.specs.Stock.{AreHere, HasNumbers, stock_of, StockState}
pub use Rattle.ufs_at_primary.specs.declared.ordered.Ordered.TheVariants as ordered
pub use Rattle.ufs_at_primary.specs.declared.ordered.Ordered.{Ordered}
