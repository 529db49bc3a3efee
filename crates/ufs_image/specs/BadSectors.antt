-- Why a sector of the journal is off, each reason by its name, and the lowest such sector.
use Rattle.std.specs.Prelude.{ℕ, List, [], ◌∷◌, ◌++◌, length, Bool, false, ◌==◌, ◌&&◌, ◌||◌, not, nat_lt, if◌then◌else◌, Option, Some, None, is_none}
use Rattle.std.specs.List.{list_any, find, range_with_len}
use Rattle.ufs_layout.specs.Areas.{journal_sectors}
use Rattle.ufs_base.specs.Images.{Image}
use Rattle.ufs_image.specs.Images.{form_at}
use Rattle.ufs_image.specs.Journal.{ReadSector, FoundSector, sectors_of_epoch, well_spelled, records_in, commit_in, has_records, has_commit, same_txn, record_sectors, PlacedRecord, Transaction, transactions, committed_of}
use Rattle.ufs_image.specs.Fold.{is_in_range, is_newer, with_valid, with_committed}
use Rattle.ufs_layout.specs.declared.geometry.Geometry.{Geometry}
use Rattle.ufs_layout.specs.declared.superblock.Super.{Super}
use Rattle.ufs_layout.specs.declared.records.LogRecord.{LogRecord}
use Rattle.ufs_layout.specs.declared.records.LogRecord.TheVariants.{Delta, Place, Free}

-- It is the spelling of nothing.
abbrev pub is_misspelled : ReadSector → Bool
is_misspelled r = is_none r.1

abbrev pub is_another : FoundSector → FoundSector → Bool
is_another f o = not (o.0 == f.0)

-- Another has its transaction and index.
abbrev pub is_repeated : List FoundSector → FoundSector → Bool
is_repeated all f = list_any (λ o. is_another f o && (same_txn f o && o.1.index == f.1.index)) all

-- a commit whose record sectors aren't all there
abbrev pub lacks_records : List FoundSector → FoundSector → Bool
lacks_records all f = has_commit f && list_any (λ index. (length (record_sectors all f index)) == 0) (range_with_len 0 f.1.index)

-- records behind a commit of their transaction
abbrev pub is_behind_commit : List FoundSector → FoundSector → Bool
is_behind_commit all f = has_records f && list_any (λ o. same_txn f o && (has_commit o && nat_lt o.1.index f.1.index)) all

-- The commit number is below the superblock's next one.
abbrev pub is_old : ℕ → FoundSector → Bool
is_old next f = below (commit_in f.1.content)
  where
    below : Option ℕ → Bool
    below None = false
    below (Some number) = nat_lt number next

-- Another commit has its number.
abbrev pub shares_number : List FoundSector → FoundSector → Bool
shares_number all f = shared (commit_in f.1.content)
  where
    has : ℕ → Option ℕ → Bool
    has number None = false
    has number (Some other) = other == number

    shared : Option ℕ → Bool
    shared None = false
    shared (Some number) = list_any (λ (o : FoundSector). is_another f o && has number (commit_in o.1.content)) all

-- It has a record of an inode or a sector out of range.
abbrev pub leaves_range : Geometry → FoundSector → Bool
leaves_range g f = list_any (λ r. not (is_in_range g r)) (records_in f.1.content)

-- ---- records that keep too many extents

-- It is applied, and keeps more extents than there are.
abbrev pub keeps_too_many : Geometry → ℕ → Image → Image → LogRecord → Bool
keeps_too_many g number before now (Delta inode kind size keep extents) =
    is_newer g number before inode && nat_lt (length (form_at g now inode).extents) keep
keeps_too_many g number before now (Place sector slot dentry) = false
keeps_too_many g number before now (Free inode) = false

-- the sectors of such records in one transaction, which found `before`
abbrev pub overkept_in : Geometry → ℕ → Image → List PlacedRecord → Image → List ℕ
overkept_in g number before [] now = []
overkept_in g number before (p ∷ ps) now =
    (if is_in_range g p.1 && keeps_too_many g number before now p.1 then p.0 ∷ [] else [])
    ++ overkept_in g number before ps (with_valid g number before p.1 now)

-- the sectors of such records, while the transactions are folded
abbrev pub overkept : Geometry → List Transaction → Image → List ℕ
overkept g [] image = []
overkept g (t ∷ ts) image = overkept_in g t.number image t.records image ++ overkept g ts (with_committed g (committed_of t) image)

-- ---- the lowest sector that is off

-- one of the reasons that are told from the journal alone
abbrev pub is_off : Geometry → ℕ → List FoundSector → FoundSector → Bool
is_off g next all f =
    is_repeated all f || lacks_records all f || is_behind_commit all f || is_old next f || shares_number all f || leaves_range g f

-- the lowest of these sectors that is off
abbrev pub first_bad : Geometry → ℕ → Image → List ReadSector → Option ℕ
first_bad g next image read =
    let all = well_spelled read in
    let overkept_sectors = overkept g (transactions all) image in
    find (λ sector.
    list_any (λ (r : ReadSector). r.0 == sector && is_misspelled r) read
    || list_any (λ (f : FoundSector). f.0 == sector && is_off g next all f) all
    || list_any (λ o. o == sector) overkept_sectors) (journal_sectors g)

-- the lowest sector of the superblock's epoch that is off
abbrev pub bad_sector : Geometry → Super → Image → Option ℕ
bad_sector g s image = first_bad g s.next image (sectors_of_epoch g s.epoch image)
