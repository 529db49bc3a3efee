-- What a journal keeps true of its disk depends on the journal's sectors alone.
use Rattle.std.specs.Prelude.{◌≡◌, ◌<◌, ℕ, List}
use Rattle.ufs_base.specs.Images.{Image}
use Rattle.ufs_disk.specs.Disk.{State, IsImage, seen}
use Rattle.ufs_layout.specs.declared.geometry.Geometry.{Geometry}
use Rattle.ufs_layout.specs.declared.records.LogRecord.{LogRecord}
use Rattle.ufs_journal.specs.declared.open_list.Opened.{Opened}
use Rattle.ufs_journal.specs.Found.{journal_sector}
use Rattle.ufs_journal.specs.Kept.{IsReady, IsUnused, IsOpen}

-- Two images have the same journal.
abbrev pub AgreeInJournal : Geometry → Image → Image → Type 0
AgreeInJournal g one other = (place : ℕ) → place < g.journal → one (journal_sector g place) ≡ other (journal_sector g place)

-- Each image of the new state has the journal of one of the old state; and the two read the same journal.
pub record KeepsJournal (g : Geometry) (old new : State) : Type 0 where
  pub each : (image : Image) → IsImage new image → (before : Image) × IsImage old before × AgreeInJournal g image before
  pub read : AgreeInJournal g (seen new) (seen old)

-- What is kept of the one state is kept of the other.
pub record KeepsReady (g : Geometry) : Type 0 where
  pub ready : (epoch used number : ℕ) (old new : State) → KeepsJournal g old new → IsReady g epoch used number old → IsReady g epoch used number new
  pub unused : (epoch txn : ℕ) (old new : State) → KeepsJournal g old new → IsUnused g epoch txn old → IsUnused g epoch txn new
  pub open_ : (epoch : ℕ) (opened : List Opened) (txn : ℕ) (records : List LogRecord) (old new : State) → KeepsJournal g old new → IsOpen g epoch opened txn records old → IsOpen g epoch opened txn records new
