-- What is said of a store.
use Rattle.std.specs.Prelude.{ℕ, ◌-◌, ◌+◌, Bool, Option, List, nat_lt, false}
use Rattle.ufs_disk.specs.Moments.{Moments}
use Rattle.ufs_layout.specs.Filled.{sector_count_of}
use Rattle.ufs_layout.specs.declared.geometry.Geometry.{Geometry}
use Rattle.ufs_layout.specs.declared.superblock.Super.{Super}
use Rattle.ufs_layout.specs.declared.records.LogRecord.{LogRecord}
use Rattle.ufs_layout.specs.declared.records.Committed.{Committed}
use Rattle.ufs_journal.specs.declared.journal.Journal.{Journal}
use Rattle.ufs_overlay.specs.declared.overlay.Overlay.{Overlay}
use Rattle.ufs_bitmap.specs.Space.{Space}

pub record StoreState : Type 0 where
  -- the disk: how many sectors it has, the states that it was in, and how many of its calls have failed
  pub sectors : ℕ
  pub moments : Moments
  pub faults : ℕ
  -- the superblock of this epoch
  pub superblock : Super
  -- the journal of this epoch, and what is committed in it and not yet home
  pub journal : Journal
  pub overlay : Overlay
  -- the next transaction of this epoch
  pub txn : ℕ
  -- the blocks of the data area that nobody has
  pub unassigned : Space
  -- whether a block was written since the last barrier
  pub unsettled : Bool
  -- the failed write or barrier at which it stopped
  pub stop : Option ℕ

abbrev pub geometry_of_store : StoreState → Geometry
geometry_of_store s = s.journal.geometry

-- the number of the last commit
abbrev pub last_commit : StoreState → ℕ
last_commit s = s.journal.number - 1

-- The journal has room for these records and their commit.
abbrev pub has_room : StoreState → List LogRecord → Bool
has_room s records = nat_lt (s.journal.used + sector_count_of records) s.journal.geometry.journal

-- these records, committed next
abbrev pub next_commit : StoreState → List LogRecord → Committed
next_commit s records = record { number = s.journal.number; records = records }

-- the superblock that a checkpoint writes next: the image is in use
abbrev pub next_superblock : StoreState → Super
next_superblock s = record (s.superblock) { epoch = s.superblock.epoch + 1; next = s.journal.number; clean = false }
