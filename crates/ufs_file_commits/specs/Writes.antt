-- Blocks that are written one after the other, and what a disk has behind them.
use Rattle.std.specs.Prelude.{ℕ, ◌≡◌, List, [], ◌∷◌, ◌++◌, flat_map, false, if◌then◌else◌, length, unwrap_or}
use Rattle.std.specs.List.{AllByRecursion, range_with_len, slice_get}
use Rattle.ufs_disk.specs.Disk.{possible}
use Rattle.ufs_disk.specs.Moments.{Moments}
use Rattle.ufs_extent.specs.Runs.{blocks_of}
use Rattle.ufs_file.specs.Content.{block_bytes}
use Rattle.ufs_file.specs.Hand.{FileState}
use Rattle.ufs_layout.specs.declared.geometry.Geometry.{Geometry}
use Rattle.ufs_layout.specs.declared.records.LogRecord.{LogRecord}
use Rattle.ufs_ledger.specs.Changes.{tried, written}
use Rattle.ufs_ledger.specs.Laws.{MayWrite}
use Rattle.ufs_ledger.specs.Ledger.{IsDataBlock, IsLedgerOf, IsMixOf, Ledger, is_held}
use Rattle.ufs_store.specs.Ledgers.{HasLedger, after_commit}
use Rattle.ufs_store.specs.State.{StoreState}

-- a block of the disk, and what is written there
pub record BlockWrite : Type 0 where
  pub block : ℕ
  pub bytes : List ℕ

-- ---- a ledger

-- the ledger behind these writes, in turn
abbrev pub with_writes : List BlockWrite → Ledger → Ledger
with_writes [] l = l
with_writes (w ∷ ws) l = with_writes ws (written w.block w.bytes l)

-- Each of them may be written.
abbrev pub MayWriteAll : Ledger → List BlockWrite → Type 0
MayWriteAll l ws = AllByRecursion (λ (w : BlockWrite). MayWrite l w.block w.bytes) ws

-- One of the writes was tried behind those before it, and failed.
pub record HasTriedOne (s : StoreState) (ws : List BlockWrite) (l : Ledger) : Type 0 where
  pub before : List BlockWrite
  pub one : BlockWrite
  pub behind : List BlockWrite
  pub whole : ws ≡ before ++ (one ∷ behind)
  -- what the block reads as then
  pub reads : List ℕ
  pub has : IsLedgerOf s.sectors s.moments.state (tried one.block one.bytes reads (with_writes before l))
  -- which is of what it was and what was to be written
  pub mixed : is_held l.now.log one.block ≡ false → IsMixOf (possible ((written one.block one.bytes (with_writes before l)).blocks one.block)) reads

-- ---- a file

-- Its blocks are of the data area.
abbrev pub AreDataBlocks : Geometry → List ℕ → Type 0
AreDataBlocks g blocks = AllByRecursion (IsDataBlock g) blocks

-- the write of the block at a place
abbrev pub write_of : FileState → ℕ → BlockWrite
write_of f place = record { block = unwrap_or (slice_get (blocks_of f.extents) place) 0; bytes = block_bytes f.content.bytes place }

-- it, where the block is dirty
abbrev pub write_at : FileState → ℕ → List BlockWrite
write_at f place = if unwrap_or (slice_get f.content.dirty place) false then write_of f place ∷ [] else []

-- those of its first places
abbrev pub writes_before : FileState → ℕ → List BlockWrite
writes_before f places = flat_map (write_at f) (range_with_len 0 places)

-- each dirty block, in the order of the file
abbrev pub writes_of : FileState → List BlockWrite
writes_of f = writes_before f (length f.content.dirty)

-- ---- a commit behind them

-- the same store, while its disk is at these moments
abbrev pub at_moments : Moments → StoreState → StoreState
at_moments m s = record s { moments = m }

-- Between the writes and the commit of these records the disk had this ledger; behind the commit the store has the next one.
pub record HasCommitted (old new : StoreState) (records : List LogRecord) (l : Ledger) : Type 0 where
  pub between : Moments
  pub written : IsLedgerOf old.sectors between.state l
  pub has : HasLedger new (after_commit (at_moments between old) records l)
