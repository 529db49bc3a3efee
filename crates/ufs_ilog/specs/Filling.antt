-- How far records fill sectors.
use Rattle.std.specs.Prelude.{ℕ, ◌≡◌, List, [], ◌∷◌, length}
use Rattle.ufs_layout.specs.Records.{records_bytes}
use Rattle.ufs_layout.specs.Filled.{sectors_of_records, sector_count_of}
use Rattle.ufs_layout.specs.declared.records.LogRecord.{LogRecord}

-- the bytes used in the last of some sectors
abbrev pub used_in_last : List (List LogRecord) → ℕ
used_in_last [] = 0
used_in_last (s ∷ []) = length (records_bytes s)
used_in_last (s ∷ t ∷ ss) = used_in_last (t ∷ ss)

-- The records take so many sectors, and of the last one so many bytes.
pub record IsFilling (sectors used : ℕ) (records : List LogRecord) : Type 0 where
  pub counted : sectors ≡ sector_count_of records
  pub last : used ≡ used_in_last (sectors_of_records records)
