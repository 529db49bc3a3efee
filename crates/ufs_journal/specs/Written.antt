-- What an image says in comparison with one from before.
use Rattle.std.specs.Prelude.{◌≡◌, ◌≤◌, ◌<◌, ◌⊎◌, ℕ, ◌+◌, List, [], ◌∷◌, ◌++◌, length, Bool, true, false}
use Rattle.std.specs.List.{list_any}
use Rattle.ufs_base.specs.Images.{Image}
use Rattle.ufs_disk.specs.Disk.{State, IsImage, seen, put}
use Rattle.ufs_image.specs.Journal.{epoch_in, FoundSector, has_records, committed}
use Rattle.ufs_layout.specs.JournalSector.{JournalSector, journal_bytes}
use Rattle.ufs_image.specs.BadSectors.{bad_sector}
use Rattle.ufs_layout.specs.declared.geometry.Geometry.{Geometry}
use Rattle.ufs_layout.specs.declared.superblock.Super.{Super}
use Rattle.ufs_layout.specs.declared.records.LogRecord.{LogRecord}
use Rattle.ufs_layout.specs.declared.records.Committed.{Committed}
use Rattle.ufs_journal.specs.Found.{found, is_of, is_committed, is_from, journal_sector, IsFreeFrom}
use Rattle.ufs_journal.specs.Found.{sectors_at}

-- an image of the state, as it was or with this sector put
pub record HasSector (sector : ℕ) (j : JournalSector) (state : State) (image : Image) : Type 0 where
  pub before : Image
  pub left : IsImage state before
  pub is : (image ≡ before) ⊎ (image ≡ put sector (journal_bytes j) before)

-- an image of the state, or the disk as it read with this sector put
abbrev pub IsOldOrPut : ℕ → JournalSector → State → Image → Type 0
IsOldOrPut sector j state image = IsImage state image ⊎ (image ≡ put sector (journal_bytes j) (seen state))

-- a sector of the journal that has this epoch
pub record IsOfEpoch (g : Geometry) (epoch sector : ℕ) (image : Image) : Type 0 where
  pub from : journal_sector g 0 ≤ sector
  pub under : sector < journal_sector g g.journal
  pub epoch_is : epoch_in (image sector) ≡ epoch

-- The two differ in sectors of this epoch alone.
abbrev pub DiffersInEpoch : Geometry → ℕ → Image → Image → Type 0
DiffersInEpoch g epoch before image = (sector : ℕ) → (image sector ≡ before sector) ⊎ IsOfEpoch g epoch sector image

-- But for sectors of this epoch it has what the other has; the same transactions are committed, and the same sector is
-- the lowest that is off.
pub record SaysTheSame (g : Geometry) (epoch : ℕ) (before image : Image) : Type 0 where
  pub differs : DiffersInEpoch g epoch before image
  pub same : committed g epoch image ≡ committed g epoch before
  pub bad : (superblock : Super) → superblock.epoch ≡ epoch → bad_sector g superblock image ≡ bad_sector g superblock before

-- It says the same as one that a crash might have left before.
pub record IsAppended (g : Geometry) (epoch : ℕ) (state : State) (image : Image) : Type 0 where
  pub before : Image
  pub left : IsImage state before
  pub says : SaysTheSame g epoch before image

-- But for sectors of this epoch it has what the other has; one transaction more is committed, behind the others; and the
-- same sector is the lowest that is off, if the number isn't below the superblock's next one.
pub record CommitsOne (g : Geometry) (epoch : ℕ) (one : Committed) (before image : Image) : Type 0 where
  pub differs : DiffersInEpoch g epoch before image
  pub more : committed g epoch image ≡ committed g epoch before ++ one ∷ []
  pub bad : (superblock : Super) → superblock.epoch ≡ epoch → superblock.next ≤ one.number → bad_sector g superblock image ≡ bad_sector g superblock before

-- It says the same as one that a crash might have left before, or commits this transaction besides.
pub record IsMaybeCommitted (g : Geometry) (epoch : ℕ) (one : Committed) (state : State) (image : Image) : Type 0 where
  pub before : Image
  pub left : IsImage state before
  pub says : SaysTheSame g epoch before image ⊎ CommitsOne g epoch one before image

-- ---- while the record sectors of a transaction are written

-- From this place on the journal has no sector of the epoch, and of the transaction nothing is found.
pub record IsReadyFor (g : Geometry) (epoch txn place : ℕ) (image : Image) : Type 0 where
  pub free : IsFreeFrom g epoch place image
  pub unused : list_any (is_of txn) (found g epoch image) ≡ false

-- It says the same as an image from before. Of the transaction it has record sectors alone, with lower indexes; of what
-- else is found there neither more nor less. From here on no place has a sector of the epoch.
pub record IsAppending (g : Geometry) (epoch txn place index : ℕ) (state : State) (image : Image) : Type 0 where
  pub before : Image
  pub left : IsImage state before
  pub says : SaysTheSame g epoch before image
  pub free : IsFreeFrom g epoch (place + index) image
  pub below : list_any (is_from txn index) (found g epoch image) ≡ false
  pub uncommitted : is_committed txn (found g epoch image) ≡ false
  pub others : (test : FoundSector → Bool) → ((f : FoundSector) → f.1.txn ≡ txn → has_records f ≡ true → test f ≡ false) → list_any test (found g epoch image) ≡ list_any test (found g epoch before)

-- It has these record sectors of the transaction behind what was found before, and is the same elsewhere.
pub record HasAppended (g : Geometry) (epoch txn place : ℕ) (sectors : List (List LogRecord)) (before image : Image) : Type 0 where
  pub found_more : found g epoch image ≡ found g epoch before ++ sectors_at g epoch txn place 0 sectors
  pub elsewhere : (sector : ℕ) → (sector < journal_sector g place) ⊎ (journal_sector g (place + length sectors) ≤ sector) → image sector ≡ before sector
