-- The one spelling of a sector of the journal.
use Rattle.ufs_base.specs.declared.sizes.TheConstants.{SECTOR}
use Rattle.std.specs.Prelude.{ℕ, List, ◌++◌, length, take, drop, Bool, true, ◌==◌, ◌&&◌, if◌then◌else◌, Option}
use Rattle.std.specs.List.{list_all}
use Rattle.ufs_layout.specs.Words.{number_at, filled_to, spelled}
use Rattle.ufs_layout.specs.JournalHead.{header_bytes, header_fields, is_header}
use Rattle.ufs_layout.specs.Records.{records_bytes, record_fields, is_record}
use Rattle.byteorder.specs.Endian.{little_bytes}
use Rattle.ufs_layout.specs.declared.records.LogRecord.{LogRecord}
use Rattle.ufs_layout.specs.declared.header.Header.{Header}

pub data SectorContent : Type 0 where
  HasRecords : List LogRecord → SectorContent
  -- with the commit number
  HasCommit : ℕ → SectorContent

-- A commit's index is the number of record sectors of its transaction.
pub record JournalSector : Type 0 where
  pub epoch : ℕ
  pub txn : ℕ
  pub index : ℕ
  pub content : SectorContent

abbrev pub kind_of : SectorContent → ℕ
kind_of (HasRecords records) = 1
kind_of (HasCommit number) = 2

abbrev pub content_bytes : ℕ → SectorContent → List ℕ
content_bytes index (HasRecords records) = records_bytes records
content_bytes index (HasCommit number) = little_bytes 4 index ++ little_bytes 8 number

abbrev pub head_in : JournalSector → Header
head_in j = record { epoch = j.epoch; txn = j.txn; index = j.index; kind = kind_of j.content; used = length (content_bytes j.index j.content) }

abbrev pub journal_bytes : JournalSector → List ℕ
journal_bytes j = filled_to SECTOR (header_bytes (head_in j) ++ content_bytes j.index j.content)

abbrev pub is_content : SectorContent → Bool
is_content (HasRecords records) = list_all is_record records
is_content (HasCommit number) = true

abbrev pub is_journal_sector : JournalSector → Bool
is_journal_sector j = is_header (head_in j) && is_content j.content

abbrev pub content_fields : Header → List ℕ → SectorContent
content_fields h bytes = if h.kind == 2 then HasCommit (number_at 8 4 bytes) else HasRecords (record_fields (length bytes) bytes)

abbrev pub journal_fields : List ℕ → JournalSector
journal_fields bytes =
    let h = header_fields bytes in
    record { epoch = h.epoch; txn = h.txn; index = h.index; content = content_fields h (take h.used (drop 24 bytes)) }

-- the journal sector whose spelling the bytes are
abbrev pub journal_of : List ℕ → Option JournalSector
journal_of = spelled journal_fields journal_bytes is_journal_sector
