-- What the journal of an epoch says: its sectors, and the transactions that are committed.
use Rattle.std.specs.Prelude.{ℕ, List, [], map, filter, filter_map, flat_map, Bool, ◌==◌, ◌&&◌, not, Option, Some, None, is_none, option_map}
use Rattle.std.specs.List.{range_with_len}
use Rattle.ufs_layout.specs.Words.{number_at, rising_by}
use Rattle.ufs_layout.specs.Areas.{journal_sectors}
use Rattle.ufs_base.specs.Images.{Image}
use Rattle.ufs_layout.specs.JournalSector.{SectorContent, HasRecords, HasCommit, JournalSector, journal_of}
use Rattle.ufs_layout.specs.declared.geometry.Geometry.{Geometry}
use Rattle.ufs_layout.specs.declared.records.LogRecord.{LogRecord}
use Rattle.ufs_layout.specs.declared.records.Committed.{Committed}

-- the epoch that a journal sector has
abbrev pub epoch_in : List ℕ → ℕ
epoch_in bytes = number_at 8 0 bytes

-- a sector's number, and what it is the spelling of
abbrev pub ReadSector : Type 0
ReadSector = ℕ × Option JournalSector

-- the journal's sectors of this epoch; the others are of no account
abbrev pub sectors_of_epoch : Geometry → ℕ → Image → List ReadSector
sectors_of_epoch g epoch image = map (λ s. (s, journal_of (image s))) (filter (λ s. epoch_in (image s) == epoch) (journal_sectors g))

-- a sector's number and its value
abbrev pub FoundSector : Type 0
FoundSector = ℕ × JournalSector

-- those that are on their form
abbrev pub well_spelled : List ReadSector → List FoundSector
well_spelled = filter_map (λ (r : ReadSector). option_map {U = FoundSector} (λ j. (r.0, j)) r.1)

abbrev pub records_in : SectorContent → List LogRecord
records_in (HasRecords records) = records
records_in (HasCommit number) = []

abbrev pub commit_in : SectorContent → Option ℕ
commit_in (HasRecords records) = None
commit_in (HasCommit number) = Some number

abbrev pub has_records : FoundSector → Bool
has_records f = is_none (commit_in f.1.content)

abbrev pub has_commit : FoundSector → Bool
has_commit f = not (has_records f)

abbrev pub same_txn : FoundSector → FoundSector → Bool
same_txn f o = f.1.txn == o.1.txn

-- the record sectors of its transaction with this index
abbrev pub record_sectors : List FoundSector → FoundSector → ℕ → List FoundSector
record_sectors all f index = filter (λ o. same_txn f o && (has_records o && o.1.index == index)) all

-- ---- committed transactions

-- a record, and the sector in which it stands
abbrev pub PlacedRecord : Type 0
PlacedRecord = ℕ × LogRecord

-- a transaction that has a commit sector, with that sector's number
pub record Transaction : Type 0 where
  pub number : ℕ
  pub records : List PlacedRecord

-- the records of a commit's transaction, in order
abbrev pub records_before : List FoundSector → FoundSector → List PlacedRecord
records_before all f = flat_map (λ index. flat_map placed (record_sectors all f index)) (range_with_len 0 f.1.index)
  where
    placed : FoundSector → List PlacedRecord
    placed o = map (λ r. (o.0, r)) (records_in o.1.content)

-- the transaction of a commit sector
abbrev pub transaction_of : List FoundSector → FoundSector → Option Transaction
transaction_of all f = option_map (λ number. record { number = number; records = records_before all f }) (commit_in f.1.content)

-- each transaction with a commit sector, by rising commit number
abbrev pub transactions : List FoundSector → List Transaction
transactions all = rising_by (λ (t : Transaction). t.number) (filter_map (transaction_of all) all)

abbrev pub committed_of : Transaction → Committed
committed_of t = record { number = t.number; records = map (λ (p : PlacedRecord). p.1) t.records }

-- the committed transactions of this epoch
abbrev pub committed : Geometry → ℕ → Image → List Committed
committed g epoch image = map committed_of (transactions (well_spelled (sectors_of_epoch g epoch image)))
