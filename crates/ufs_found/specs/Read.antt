-- Journal sectors as they are read: those of an epoch in some sectors from one on, and the lowest that is off its form.
use Rattle.std.specs.Prelude.{ℕ, ◌-◌, ◌*◌, List, [], ◌∷◌, ◌==◌, if◌then◌else◌, take, drop, Option, Some, None, option_map, filter, map}
use Rattle.std.specs.List.{find, range_with_len}
use Rattle.ufs_base.specs.Images.{Image}
use Rattle.ufs_layout.specs.JournalSector.{SectorContent, HasRecords, HasCommit, journal_of}
use Rattle.ufs_image.specs.Journal.{epoch_in, ReadSector, FoundSector}
use Rattle.ufs_image.specs.BadSectors.{is_misspelled}
use Rattle.ufs_layout.specs.declared.records.LogRecord.{LogRecord}

-- a commit's number, or else records
abbrev pub content_of : Option ℕ → List LogRecord → SectorContent
content_of None records = HasRecords records
content_of (Some number) records = HasCommit number

-- what a sector's bytes are the spelling of, with its number
abbrev pub found_at : ℕ → List ℕ → Option FoundSector
found_at sector bytes = option_map {U = FoundSector} (λ j. (sector, j)) (journal_of bytes)

-- a sector, where it is of the epoch
abbrev pub read_one : ℕ → ℕ → List ℕ → List ReadSector
read_one epoch sector bytes = if epoch_in bytes == epoch then (sector, journal_of bytes) ∷ [] else []

-- the sectors of the epoch among so many from one on
abbrev pub read_from : ℕ → Image → ℕ → ℕ → List ReadSector
read_from epoch image first count = map (λ s. (s, journal_of (image s))) (filter (λ s. epoch_in (image s) == epoch) (range_with_len first count))

-- bytes as sectors, the first with this number
abbrev pub pieces_from : ℕ → List ℕ → Image
pieces_from first bytes sector = take 512 (drop (512 * (sector - first)) bytes)

-- the lowest that is off its form
abbrev pub misspelled : List ReadSector → Option ℕ
misspelled read = option_map (λ (r : ReadSector). r.0) (find is_misspelled read)

-- a sector that is on its form, and one that is off it
abbrev pub listed : Option FoundSector → List FoundSector
listed None = []
listed (Some f) = f ∷ []

abbrev pub off_form : ℕ → Option FoundSector → Option ℕ
off_form sector None = Some sector
off_form sector (Some f) = None
