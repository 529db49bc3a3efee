-- The parts of a journal sector, each by itself.
use Rattle.std.specs.Prelude.{ℕ, List, length, if◌then◌else◌, ◌==◌, ◌&&◌, Option, option_map}
use Rattle.ufs_base.specs.Choices.{some_if}
use Rattle.ufs_layout.specs.Words.{number_at}
use Rattle.ufs_layout.specs.Records.{records_of}
use Rattle.ufs_layout.specs.JournalSector.{SectorContent, HasRecords, HasCommit, JournalSector}
use Rattle.ufs_layout.specs.declared.header.Header.{Header}

-- a commit's content: how many record sectors, and the number
abbrev pub commit_read : ℕ → List ℕ → Option ℕ
commit_read index content = some_if (length content == 12 && number_at 4 0 content == index) (number_at 8 4 content)

-- the content behind a head
abbrev pub content_read : Header → List ℕ → Option SectorContent
content_read h content = if h.kind == 2 then option_map HasCommit (commit_read h.index content) else option_map HasRecords (records_of content)

abbrev pub with_head : Header → SectorContent → JournalSector
with_head h content = record { epoch = h.epoch; txn = h.txn; index = h.index; content = content }
