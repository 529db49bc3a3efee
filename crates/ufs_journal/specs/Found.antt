-- What stands in an image's journal of one epoch, asked by transaction.
use Rattle.std.specs.Prelude.{◌≡◌, ◌≤◌, ◌<◌, ◌⊎◌, ℕ, ◌+◌, ◌*◌, List, [], ◌∷◌, Bool, false, ◌==◌, ◌&&◌, nat_le, Option, Some, None}
use Rattle.std.specs.List.{filter, list_any}
use Rattle.ufs_layout.specs.Areas.{first_of_journal}
use Rattle.ufs_base.specs.Images.{Image}
use Rattle.ufs_image.specs.Journal.{epoch_in, FoundSector, sectors_of_epoch, well_spelled, commit_in, has_commit}
use Rattle.ufs_layout.specs.JournalSector.{HasRecords}
use Rattle.ufs_layout.specs.declared.geometry.Geometry.{Geometry}
use Rattle.ufs_layout.specs.declared.records.LogRecord.{LogRecord}

-- the sectors of this epoch that are on their form, in the order of their places
abbrev pub found : Geometry → ℕ → Image → List FoundSector
found g epoch image = well_spelled (sectors_of_epoch g epoch image)

abbrev pub is_of : ℕ → FoundSector → Bool
is_of txn f = f.1.txn == txn

-- those of one transaction
abbrev pub sectors_of_txn : ℕ → List FoundSector → List FoundSector
sectors_of_txn txn all = filter (is_of txn) all

-- the transaction's commit
abbrev pub commits_txn : ℕ → FoundSector → Bool
commits_txn txn f = is_of txn f && has_commit f

abbrev pub is_committed : ℕ → List FoundSector → Bool
is_committed txn all = list_any (commits_txn txn) all

-- a sector of this transaction with this index
abbrev pub is_at : ℕ → ℕ → FoundSector → Bool
is_at txn index f = is_of txn f && f.1.index == index

-- a sector of this transaction with this index or one behind it
abbrev pub is_from : ℕ → ℕ → FoundSector → Bool
is_from txn index f = is_of txn f && nat_le index f.1.index

-- a commit with this number or a higher one
abbrev pub reaches : ℕ → FoundSector → Bool
reaches number f = reached (commit_in f.1.content)
  where
    reached : Option ℕ → Bool
    reached None = false
    reached (Some other) = nat_le number other

-- ---- places

-- the journal's sector with this place, counted from 0
abbrev pub journal_sector : Geometry → ℕ → ℕ
journal_sector g place = 8 * first_of_journal g + place

-- The sector is not in the journal.
abbrev pub IsOffJournal : Geometry → ℕ → Type 0
IsOffJournal g sector = (sector < journal_sector g 0) ⊎ (journal_sector g g.journal ≤ sector)

-- Two images have the same but for the journal.
abbrev pub AgreeOffJournal : Geometry → Image → Image → Type 0
AgreeOffJournal g one other = (sector : ℕ) → IsOffJournal g sector → one sector ≡ other sector

-- From this place on the journal has no sector of the epoch.
abbrev pub IsFreeFrom : Geometry → ℕ → ℕ → Image → Type 0
IsFreeFrom g epoch used image = (place : ℕ) → used ≤ place → place < g.journal → (epoch_in (image (journal_sector g place)) == epoch) ≡ false

-- a transaction's record sectors, from this place and index on
abbrev pub sectors_at : Geometry → (epoch txn place index : ℕ) → List (List LogRecord) → List FoundSector
sectors_at g epoch txn place index [] = []
sectors_at g epoch txn place index (rs ∷ more) =
    (journal_sector g place, record { epoch = epoch; txn = txn; index = index; content = HasRecords rs })
    ∷ sectors_at g epoch txn (place + 1) (index + 1) more
