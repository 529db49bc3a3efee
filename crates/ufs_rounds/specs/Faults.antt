-- What the cells of a session's store count.
use Rattle.std.specs.Prelude.{List}
use Rattle.ufs_joint.specs.Cells.{StoreCell}
use Rattle.ufs_store.specs.State.{StoreState}
use Rattle.ufs_primary.specs.OfTurns.{stop_in, tally_in}

-- the store as it was at first, with what is counted in these cells, and where it has stopped there
abbrev pub counts_in : StoreState → List (Unit {0} × StoreCell) → StoreState
counts_in s cells = record s {
  faults = (tally_in cells).faults;
  stop = stop_in cells;
  superblock = record s.superblock { epoch = (tally_in cells).epoch };
  journal = record s.journal { number = (tally_in cells).number };
}
