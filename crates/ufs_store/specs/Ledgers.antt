-- The ledger of a store's disk, and how the store's calls change it.
use Rattle.std.specs.Prelude.{ℕ, ◌≡◌, ◌≤◌, ◌<◌, ◌^◌, ◌⊎◌, List, [], ◌∷◌, false, if◌then◌else◌, nat_lt, None, IsTrue}
use Rattle.std.specs.List.{list_all}
use Rattle.ufs_base.specs.Images.{Image}
use Rattle.ufs_disk.specs.Moments.{reads}
use Rattle.ufs_layout.specs.declared.records.LogRecord.{LogRecord}
use Rattle.ufs_layout.specs.declared.records.Committed.{Committed}
use Rattle.ufs_image.specs.Catalog.{IsInode}
use Rattle.ufs_image.specs.Images.{block_at}
use Rattle.ufs_layout.specs.Superblock.{geometry_of}
use Rattle.ufs_journal.specs.Kept.{IsUnused}
use Rattle.ufs_overlay.specs.Seen as overlaid
use Rattle.ufs_ledger.specs.Ledger.{Ledger, IsLeftBy, IsLedgerOf}
use Rattle.ufs_ledger.specs.Changes.{MayCommit, settled, committing, committed_one, home_of, beginning, emptied}
use Rattle.ufs_ledger.specs.Committing.{IsLedgerBy}
use Rattle.ufs_store.specs.State.{StoreState, geometry_of_store, has_room, next_commit, next_superblock}

-- A store that hasn't stopped has this ledger on its disk, and knows it: its journal goes on behind what is committed, its
-- overlay has just that, it knows whether anything is pending, and its next commit number is above each inode's.
pub record HasLedger (s : StoreState) (l : Ledger) : Type 0 where
  pub going : s.stop ≡ None
  pub by : IsLedgerBy s.journal s.sectors s.moments.state l
  pub superblock_is : l.superblock ≡ s.superblock
  pub added : overlaid.HasAdded s.overlay l.now.log
  pub numbered : IsTrue (list_all (λ (t : Committed). nat_lt t.number s.journal.number) l.now.log)
  pub unused : (txn : ℕ) → s.txn ≤ txn → IsUnused s.journal.geometry s.journal.epoch txn s.moments.state
  pub settled : s.unsettled ≡ false → (block : ℕ) → (l.blocks block).older ≡ []
  pub older : (inode : ℕ) → IsInode (geometry_of l.superblock) inode → (l.now.catalog.forms inode).number < s.journal.number
  pub fits : s.journal.number < 2 ^ 64

-- ---- one of several ledgers

abbrev pub AnyOf : (Ledger → Type 0) → List Ledger → Type 0
AnyOf P [] = ⊥
AnyOf P (l ∷ ls) = P l ⊎ AnyOf P ls

-- A crash leaves this image of a disk that has one of these ledgers.
abbrev pub IsLeftByAny : ℕ → List Ledger → Image → Type 0
IsLeftByAny sectors ls image = AnyOf (λ l. IsLeftBy sectors l image) ls

-- The disk has one of these ledgers.
abbrev pub HasAny : StoreState → List Ledger → Type 0
HasAny s ls = AnyOf (IsLedgerOf s.sectors s.moments.state) ls

-- ---- a checkpoint

-- while the next epoch begins
abbrev pub beginning_next : StoreState → Ledger → Ledger
beginning_next s l = beginning (next_superblock s) (block_at (home_of l (reads s.moments))) l

-- once it has begun
abbrev pub checkpointed : StoreState → Ledger → Ledger
checkpointed s l = emptied (next_superblock s) (block_at (home_of l (reads s.moments))) l

-- ---- a commit

-- Where the journal lacks room for these records, a checkpoint comes first.
abbrev pub with_room : StoreState → List LogRecord → Ledger → Ledger
with_room s records l = if has_room s records then l else checkpointed s l

-- what the disk may have meanwhile
abbrev pub room_stages : StoreState → List LogRecord → Ledger → List Ledger
room_stages s records l = if has_room s records then l ∷ [] else l ∷ beginning_next s l ∷ []

-- These records may be committed next.
abbrev pub MayCommitNext : StoreState → List LogRecord → Ledger → Type 0
MayCommitNext s records l = MayCommit (geometry_of_store s) (next_commit s records) l.now

-- once they are committed
abbrev pub after_commit : StoreState → List LogRecord → Ledger → Ledger
after_commit s records l = committed_one (next_commit s records) (with_room s records l)

-- what the disk may have while they are being committed, from this ledger on
abbrev pub commit_stages : Committed → Ledger → List Ledger
commit_stages t l = l ∷ committing t (settled l) ∷ []

-- the same with the checkpoint that comes first where room lacks
abbrev pub stages : StoreState → List LogRecord → Ledger → List Ledger
stages s records l =
    if has_room s records then commit_stages (next_commit s records) l
    else l ∷ beginning_next s l ∷ commit_stages (next_commit s records) (checkpointed s l)
