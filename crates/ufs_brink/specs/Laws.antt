-- What a mount makes of a start.
use Rattle.std.specs.Prelude.{ℕ, ◌≡◌, []}
use Rattle.std.specs.FinSet as set
use Rattle.ufs_base.specs.Images.{Image}
use Rattle.ufs_disk.specs.Disk.{IsWhole, State, seen}
use Rattle.ufs_image.specs.Proper.{IsProperImage}
use Rattle.ufs_layout.specs.declared.geometry.Geometry.{Geometry}
use Rattle.ufs_ledger.specs.Changes.{opening_ledger}
use Rattle.ufs_ledger.specs.Kept.{OpensExplained}
use Rattle.ufs_ledger.specs.Ledger.{IsLeftBy}
use Rattle.ufs_model.specs.PosixTree.{PosixTree}
use Rattle.ufs_recovery.specs.Recovered.{IsCleanDisk}
use Rattle.ufs_brink.specs.Begins.{BeginsWith}
use Rattle.ufs_told.specs.MayBegin.{MayBegin}
use Rattle.ufs_store.specs.Ledgers.{HasLedger}
use Rattle.ufs_store.specs.Mounting.{IsMountable, in_use, marking}
use Rattle.ufs_store.specs.State.{StoreState, geometry_of_store}
use Rattle.ufs_promise_laws.specs.OnDisk.{IsOnDisk}
use Rattle.ufs_promise_laws.specs.Parts.{Parts}
use Rattle.ufs_promise_laws.specs.Sound.{IsSoundServer}
use Rattle.ufs_start_laws.specs.Parts.{begun_parts}
use Rattle.ufs_start.specs.Begun.{IsBegun}
use Rattle.ufs_start.specs.declared.parts.Start.{Start}

-- the server's parts: each file has a name, so no block is nobody's
abbrev pub parts_of : Start → Parts
parts_of s = begun_parts s.names s.files set.empty

abbrev pub StartsMayBegin : Type 0
StartsMayBegin = (sectors : ℕ) (image : Image) (s : Start) (start : PosixTree) → IsBegun sectors image s → BeginsWith sectors image start → MayBegin (parts_of s) start

abbrev pub StartsAreSound : Type 0
StartsAreSound = (sectors : ℕ) (image : Image) (s : Start) → IsBegun sectors image s → IsSoundServer s.superblock.geometry s.free.free (parts_of s)

-- ---- of a clean disk

-- The disk is clean, and this was read of it.
pub record IsReadClean (g : Geometry) (sectors : ℕ) (state : State) (s : Start) : Type 0 where
  pub whole : IsWhole sectors state
  pub clean : IsCleanDisk sectors state
  pub begun : IsBegun sectors (seen state) s
  pub geometry : s.superblock.geometry ≡ g

abbrev pub CleanStartsMount : Geometry → Type 0
CleanStartsMount g = (sectors : ℕ) (state : State) (s : Start) → IsReadClean g sectors state s → IsMountable sectors state s.superblock.superblock

-- With the ledger that the mount gives the server goes on from the tree that was read.
abbrev pub StartsGoOn : Geometry → Type 0
StartsGoOn g = (sectors : ℕ) (state : State) (s : Start) (start : PosixTree) (store : StoreState) (p : Parts) → IsReadClean g sectors state s → BeginsWith sectors (seen state) start → p ≡ parts_of s
    → HasLedger store (opening_ledger (in_use s.superblock.superblock) (seen state)) → geometry_of_store store ≡ s.superblock.geometry → store.unassigned ≡ s.free → IsOnDisk store start [] p

-- While the image is marked in use a crash leaves that tree, in a proper image.
abbrev pub MarkingIsExplained : Geometry → Type 0
MarkingIsExplained g = (sectors : ℕ) (state : State) (s : Start) (start : PosixTree) (image : Image) → IsReadClean g sectors state s → BeginsWith sectors (seen state) start
    → IsLeftBy sectors (marking s.superblock.superblock (seen state)) image → OpensExplained sectors start [] image

abbrev pub MarkingIsProper : Geometry → Type 0
MarkingIsProper g = (sectors : ℕ) (state : State) (s : Start) (image : Image) → IsReadClean g sectors state s → IsLeftBy sectors (marking s.superblock.superblock (seen state)) image → IsProperImage sectors image
