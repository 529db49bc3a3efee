-- Notes of the names' changes, where some are kept.
use Rattle.std.specs.Prelude.{ℕ, ◌≡◌, ◌≤◌, ◌^◌, ◌⊎◌, ◌++◌, ⊤, List, Option, Some, None}
use Rattle.ufs_base.specs.declared.lack.Lack.{Lack}
use Rattle.ufs_base.specs.declared.lack.Lack.TheVariants.{Memory, AtEnd, Unsound, Told}
use Rattle.ufs_layout.specs.Filled.{sector_count_of}
use Rattle.ufs_layout.specs.declared.records.LogRecord.{LogRecord}

-- The records of all changes that were noted, in order; none where nothing is noted.
abbrev pub Noted : Type 0
Noted = Option (List LogRecord)

-- Behind what was noted before stand these records now.
pub record IsNotedOn (old new : Noted) (records : List LogRecord) : Type 0 where
  pub before : List LogRecord
  pub was : old ≡ Some before
  pub is : new ≡ Some (before ++ records)

-- So it is, or nothing is noted any more.
abbrev pub IsNotedBehind : Noted → Noted → List LogRecord → Type 0
IsNotedBehind old new records = (new ≡ None) ⊎ IsNotedOn old new records

-- Where anything is noted, these records stand behind it; where nothing is, nothing is still.
abbrev pub IsNotedWhole : Noted → Noted → List LogRecord → Type 0
IsNotedWhole None new records = new ≡ None
IsNotedWhole (Some before) new records = new ≡ Some (before ++ records)

-- For want of this, these records can't stand behind the others: of memory, or of numbers that count all their sectors.
abbrev pub IsLackFor : List LogRecord → List LogRecord → Lack → Type 0
IsLackFor before records (Memory refused) = ⊤
IsLackFor before records AtEnd = 2 ^ 32 ≤ sector_count_of (before ++ records)
IsLackFor before records Unsound = ⊥
IsLackFor before records Told = ⊥

-- For want of this, what was noted is lost. Where nothing was noted, nothing is lost.
abbrev pub IsLostFor : Noted → List LogRecord → Lack → Type 0
IsLostFor None records lack = ⊥
IsLostFor (Some before) records lack = IsLackFor before records lack

abbrev pub sectors_noted : Noted → ℕ
sectors_noted None = 0
sectors_noted (Some records) = sector_count_of records
