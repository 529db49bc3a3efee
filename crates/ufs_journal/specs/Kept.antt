-- What a journal keeps true of its disk.
use Rattle.std.specs.Prelude.{◌≡◌, ◌≤◌, ◌<◌, ℕ, ◌-◌, List, false, ◌==◌, Some}
use Rattle.std.specs.List.{list_any}
use Rattle.ufs_base.specs.Images.{Image}
use Rattle.ufs_disk.specs.Disk.{State, Leaves, seen}
use Rattle.ufs_image.specs.Journal.{epoch_in, committed}
use Rattle.ufs_image.specs.Fold.{folded}
use Rattle.ufs_layout.specs.declared.geometry.Geometry.{Geometry}
use Rattle.ufs_layout.specs.declared.records.LogRecord.{LogRecord}
use Rattle.ufs_journal.specs.declared.open_list.Opened.{Opened}
use Rattle.ufs_journal.specs.Applied.{keeps_more}
use Rattle.ufs_journal.specs.Found.{found, is_of, reaches, sectors_of_txn, journal_sector, IsFreeFrom}
use Rattle.ufs_layout.specs.Filled.{sectors_of_records, sector_count_of}
use Rattle.ufs_journal.specs.Found.{sectors_at}
use Rattle.ufs_journal.specs.Opened.{opened_of}

-- No sector of the journal has a later epoch.
abbrev pub HasNoLater : Geometry → ℕ → Image → Type 0
HasNoLater g epoch image = (place : ℕ) → place < g.journal → epoch_in (image (journal_sector g place)) ≤ epoch

-- Each sector of the journal has an earlier epoch.
abbrev pub HasEarlier : Geometry → ℕ → Image → Type 0
HasEarlier g epoch image = (place : ℕ) → place < g.journal → epoch_in (image (journal_sector g place)) < epoch

-- Whatever a crash leaves: no sector of this epoch stands behind the used ones, none has a later epoch, and each
-- commit's number is below the next one.
pub record IsReady (g : Geometry) (epoch used number : ℕ) (state : State) : Type 0 where
  pub free : Leaves (IsFreeFrom g epoch used) state
  pub latest : Leaves (HasNoLater g epoch) state
  pub fresh : Leaves (λ image. list_any (reaches number) (found g epoch image) ≡ false) state

-- Whatever a crash leaves, nothing of this transaction is found.
abbrev pub IsUnused : Geometry → ℕ → ℕ → State → Type 0
IsUnused g epoch txn state = Leaves (λ image. list_any (is_of txn) (found g epoch image) ≡ false) state

-- As the disk reads, just the record sectors of these records are found of the transaction, and the place of its commit
-- has no sector of this epoch.
pub record HoldsRecords (g : Geometry) (epoch : ℕ) (one : Opened) (records : List LogRecord) (image : Image) : Type 0 where
  pub inside : one.place < g.journal
  pub blank : (epoch_in (image (journal_sector g one.place)) == epoch) ≡ false
  pub counted : one.count ≡ sector_count_of records
  pub holds : sectors_of_txn one.txn (found g epoch image) ≡ sectors_at g epoch one.txn (one.place - one.count) 0 (sectors_of_records records)

-- The transaction is open with these records.
pub record IsOpen (g : Geometry) (epoch : ℕ) (opened : List Opened) (txn : ℕ) (records : List LogRecord) (state : State) : Type 0 where
  pub one : Opened
  pub listed : opened_of txn opened ≡ Some one
  pub holds : HoldsRecords g epoch one records (seen state)

-- Each record that is applied, behind all that is committed, keeps at most the extents that there are.
abbrev pub CanApply : Geometry → ℕ → ℕ → List LogRecord → Image → Type 0
CanApply g epoch number records image = (let before = folded g (committed g epoch image) image in keeps_more g number before records before ≡ false)
