-- A store, by its disk and its tables.
use Rattle.std.specs.Prelude.{ℕ}
use Rattle.ufs_disk.specs.Moments.{Moments}
use Rattle.ufs_store.specs.declared.tables.Tables.{Tables}
use Rattle.ufs_store.specs.State.{StoreState}

abbrev pub state_of : ℕ → Moments → ℕ → Tables → StoreState
state_of sectors moments faults t = record {
  sectors = sectors;
  moments = moments;
  faults = faults;
  superblock = t.superblock;
  journal = t.journal;
  overlay = t.overlay;
  txn = t.txn;
  unassigned = t.unassigned;
  unsettled = t.unsettled;
  stop = t.stop;
}
