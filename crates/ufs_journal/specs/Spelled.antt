-- The spellings of a transaction's record sectors.
use Rattle.std.specs.Prelude.{◌≡◌, ℕ, ◌+◌, List, [], ◌∷◌, ◌++◌, length, Some}
use Rattle.ufs_layout.specs.JournalSector.{JournalSector, HasRecords, journal_bytes, journal_of}
use Rattle.ufs_layout.specs.declared.records.LogRecord.{LogRecord}

abbrev pub sector_of : (epoch txn index : ℕ) → List LogRecord → JournalSector
sector_of epoch txn index records = record { epoch = epoch; txn = txn; index = index; content = HasRecords records }

-- the bytes of each, from this index on
abbrev pub spelled_sectors : (epoch txn index : ℕ) → List (List LogRecord) → List (List ℕ)
spelled_sectors epoch txn index [] = []
spelled_sectors epoch txn index (rs ∷ more) = journal_bytes (sector_of epoch txn index rs) ∷ spelled_sectors epoch txn (index + 1) more

-- one after the other
abbrev pub joined : List (List ℕ) → List ℕ
joined [] = []
joined (piece ∷ pieces) = piece ++ joined pieces

-- Each is read back from its bytes, which fill a sector.
abbrev pub AreReadBack : (epoch txn index : ℕ) → List (List LogRecord) → Type 0
AreReadBack epoch txn index [] = Unit {0}
AreReadBack epoch txn index (rs ∷ more) =
    (journal_of (journal_bytes (sector_of epoch txn index rs)) ≡ Some (sector_of epoch txn index rs))
    × (length (journal_bytes (sector_of epoch txn index rs)) ≡ 512)
    × AreReadBack epoch txn (index + 1) more
