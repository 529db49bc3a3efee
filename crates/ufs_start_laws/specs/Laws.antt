-- A server begins with what its disk has.
use Rattle.std.specs.Prelude.{ℕ, ◌≡◌, []}
use Rattle.std.specs.FinSet as set
use Rattle.ufs_base.specs.Images.{Image}
use Rattle.ufs_bitmap.specs.Blocks.{BlockSet}
use Rattle.ufs_disk.specs.Disk.{Leaves, State, seen}
use Rattle.ufs_files.specs.Files.{Files}
use Rattle.ufs_image.specs.Images.{IsImageOf}
use Rattle.ufs_image.specs.Volume.{Volume}
use Rattle.ufs_journal.specs.Kept.{HasEarlier}
use Rattle.ufs_layout.specs.declared.geometry.Geometry.{Geometry}
use Rattle.ufs_ledger.specs.Changes.{opening_ledger}
use Rattle.ufs_names.specs.NamesPart.{NamesPart}
use Rattle.ufs_store.specs.Ledgers.{HasLedger}
use Rattle.ufs_store.specs.Mounting.{IsMountable, in_use}
use Rattle.ufs_store.specs.State.{StoreState, geometry_of_store}
use Rattle.ufs_promise_laws.specs.OnDisk.{IsGoing}
use Rattle.ufs_promise_laws.specs.Sound.{IsSoundServer}
use Rattle.ufs_promise_laws.specs.Stored.{IsStored}
use Rattle.ufs_start_laws.specs.Parts.{AllAreNamed, AreOrphaned, IsOpened, begun_counts, begun_parts, start_in}

-- The parts are sound, whatever else the disk has.
abbrev pub BeginsSound : Type 0
BeginsSound = (sectors : ℕ) (disk : Image) (v : Volume) (n : NamesPart) (files : Files) (free orphaned : BlockSet) → IsOpened sectors disk v n files free → AreOrphaned v n orphaned
    → IsSoundServer v.geometry free (begun_parts n files orphaned)

-- With nothing in the journal, and no block of a file without a name, the server is stored on the ledger that the disk has once it is
-- marked in use.
abbrev pub BeginsStored : Geometry → Type 0
BeginsStored g = (sectors : ℕ) (disk : Image) (v : Volume) (n : NamesPart) (files : Files) (free : BlockSet) → v.geometry ≡ g → IsImageOf sectors disk → IsOpened sectors disk v n files free → AreOrphaned v n set.empty
    → HasEarlier v.geometry v.superblock.epoch disk → IsStored (opening_ledger (in_use v.superblock) disk) free (start_in v) [] (begun_counts n) (begun_parts n files set.empty)

-- So it goes on, beside the store of the mounted disk, from the tree that the image stands for.
abbrev pub BeginsOnDisk : Geometry → Type 0
BeginsOnDisk g = (sectors : ℕ) (state : State) (v : Volume) (n : NamesPart) (files : Files) (store : StoreState) → v.geometry ≡ g → Leaves (IsImageOf sectors) state → IsMountable sectors state v.superblock
    → HasLedger store (opening_ledger (in_use v.superblock) (seen state)) → geometry_of_store store ≡ v.geometry → IsOpened sectors (seen state) v n files store.unassigned.free → AreOrphaned v n set.empty
    → IsGoing store (start_in v) [] (begun_parts n files set.empty)

-- Where all files have names, no block is such a one.
abbrev pub WholeHaveNone : Type 0
WholeHaveNone = (sectors : ℕ) (disk : Image) (v : Volume) (n : NamesPart) (files : Files) (free : BlockSet) → IsOpened sectors disk v n files free → AllAreNamed v n → AreOrphaned v n set.empty
