-- What a store needs of its journal for the next commit.
use Rattle.std.specs.Prelude.{ℕ, ◌≡◌, ◌≤◌, false, None, List}
use Rattle.ufs_disk.specs.Disk.{State}
use Rattle.ufs_layout.specs.Superblock.{geometry_of}
use Rattle.ufs_layout.specs.declared.records.LogRecord.{LogRecord}
use Rattle.ufs_journal.specs.declared.journal.Journal.{Journal}
use Rattle.ufs_journal.specs.Kept.{IsReady, IsUnused}
use Rattle.ufs_ledger.specs.Ledger.{Ledger, IsLedgerOf}
use Rattle.ufs_ledger.specs.Changes.{MayCommit}

-- The disk has this ledger, nothing is committed besides, its image is in use, and the journal goes on behind what is committed.
pub record IsLedgerBy (j : Journal) (sectors : ℕ) (state : State) (l : Ledger) : Type 0 where
  pub is : IsLedgerOf sectors state l
  pub none : l.maybe ≡ None
  pub in_use : l.superblock.clean ≡ false
  pub geometry : geometry_of l.superblock ≡ j.geometry
  pub epoch : l.superblock.epoch ≡ j.epoch
  pub later : l.superblock.next ≤ j.number
  pub ready : IsReady j.geometry j.epoch j.used j.number state

-- These records may be committed next, as this transaction.
pub record MayGoOn (j : Journal) (state : State) (l : Ledger) (txn : ℕ) (records : List LogRecord) : Type 0 where
  pub unused : IsUnused j.geometry j.epoch txn state
  pub may : MayCommit j.geometry (record { number = j.number; records = records }) l.now
