-- What keeps a server on its disk, also once its store has stopped.
use Rattle.std.specs.Prelude.{ℕ, ◌≡◌, ◌-◌, ◌*◌, ◌⊎◌, List, [], ◌∷◌, ◌++◌, IsSome, length, take, true, false, Some, None}
use Rattle.std.specs.List.{slice_get}
use Rattle.std.specs.FinMap as map
use Rattle.ufs_base.specs.declared.sizes.TheConstants.{BLOCK}
use Rattle.ufs_bitmap.specs.Taking.{has}
use Rattle.ufs_disk.specs.Disk.{Leaves}
use Rattle.ufs_extent.specs.Runs.{blocks_of}
use Rattle.ufs_file.specs.Content.{own_bytes}
use Rattle.ufs_file.specs.Hand.{FileState}
use Rattle.ufs_image.specs.Proper.{IsProperImage}
use Rattle.ufs_layout.specs.Superblock.{geometry_of}
use Rattle.ufs_layout.specs.declared.geometry.Geometry.{Geometry}
use Rattle.ufs_layout.specs.declared.records.LogRecord.{LogRecord}
use Rattle.ufs_ledger.specs.Changes.{committing, settled, tried}
use Rattle.ufs_ledger.specs.Kept.{Counts, IsLedgerKept}
use Rattle.ufs_ledger.specs.Ledger.{IsDataBlock, IsLedgerOf, Ledger, is_held}
use Rattle.ufs_model.specs.Descriptors.{opened}
use Rattle.ufs_model.specs.FileBytes.{bytes_of}
use Rattle.ufs_model.specs.History.{IsLegal, is_excused, tree_after}
use Rattle.ufs_model.specs.PosixTree.{PosixTree}
use Rattle.ufs_model.specs.declared.data.Entry.{Entry}
use Rattle.ufs_model.specs.declared.data.Op.TheVariants as op
use Rattle.ufs_crash_laws.specs.Changes.{asks_commit}
use Rattle.ufs_crash_laws.specs.Steps.{is_ok}
use Rattle.ufs_store.specs.Ledgers.{HasAny, HasLedger, beginning_next, stages, with_room}
use Rattle.ufs_store.specs.State.{StoreState, geometry_of_store, next_commit}
use Rattle.ufs_promise_laws.specs.Laws.{leaves_tree}
use Rattle.ufs_promise_laws.specs.OnDisk.{HasAll, HasFile, HasNames, HasStoppedBy, IsExplainedBy, IsOnDisk}
use Rattle.ufs_promise_laws.specs.Parts.{Parts}
use Rattle.ufs_promise_laws.specs.Stored.{ArePartsOf, IsStored}

-- ---- what a crash leaves

-- The history explains whatever a crash leaves.
abbrev pub OnDiskIsExplained : Geometry → Type 0
OnDiskIsExplained g = (s : StoreState) (start : PosixTree) (history : List Entry) (p : Parts) → geometry_of_store s ≡ g → IsOnDisk s start history p → IsExplainedBy s start history

-- It is a proper image.
abbrev pub OnDiskIsProper : Geometry → Type 0
OnDiskIsProper g = (s : StoreState) (start : PosixTree) (history : List Entry) (p : Parts) → geometry_of_store s ≡ g → IsOnDisk s start history p → Leaves (IsProperImage s.sectors) s.moments.state

-- ---- what a read gives

-- Of a block of a file that isn't dirty it gives first the bytes that the tree has for the file there, also once the store has
-- stopped: the words of the second premise are those in which a store's read tells what it read.
abbrev pub OnDiskReads : Type 0
OnDiskReads = (s : StoreState) (start : PosixTree) (history : List Entry) (p : Parts) (file : ℕ) (f : FileState) (place block : ℕ) (bytes : List ℕ) → IsOnDisk s start history p
    → ((l : Ledger) → IsLedgerOf s.sectors s.moments.state l → IsDataBlock (geometry_of l.superblock) block → is_held l.now.log block ≡ false → bytes ≡ (l.blocks block).seen) → length bytes ≡ BLOCK
    → map.get p.files file ≡ Some f → slice_get (blocks_of f.extents) place ≡ Some block → slice_get f.content.dirty place ≡ Some false
    → take (length (bytes_of (tree_after start history).bytes file) - BLOCK * place) bytes ≡ own_bytes (bytes_of (tree_after start history).bytes file) place

-- ---- an entry is drawn

-- An excused one.
abbrev pub OnDiskIsExcused : Geometry → Type 0
OnDiskIsExcused g = (s : StoreState) (start : PosixTree) (history : List Entry) (entry : Entry) (p : Parts) → geometry_of_store s ≡ g
    → IsLegal start (history ++ entry ∷ []) → is_excused entry.reply ≡ true → IsOnDisk s start history p → IsOnDisk s start (history ++ entry ∷ []) p

-- One of a request that changes nothing of a tree and asks for no commit.
abbrev pub OnDiskStaysStill : Geometry → Type 0
OnDiskStaysStill g = (s : StoreState) (start : PosixTree) (history : List Entry) (entry : Entry) (p : Parts) → geometry_of_store s ≡ g
    → IsLegal start (history ++ entry ∷ []) → leaves_tree entry.op ≡ true → asks_commit entry.op ≡ false → IsOnDisk s start history p → IsOnDisk s start (history ++ entry ∷ []) p

-- One of such a request that is refused.
abbrev pub OnDiskIsRefused : Geometry → Type 0
OnDiskIsRefused g = (s : StoreState) (start : PosixTree) (history : List Entry) (entry : Entry) (p : Parts) → geometry_of_store s ≡ g
    → IsLegal start (history ++ entry ∷ []) → leaves_tree entry.op ≡ true → is_ok entry.reply ≡ false → IsOnDisk s start history p → IsOnDisk s start (history ++ entry ∷ []) p

-- One that leaves the parts and the bytes of files as they are and acknowledges nothing: a client's own answer.
abbrev pub OnDiskStaysBeside : Geometry → Type 0
OnDiskStaysBeside g = (s : StoreState) (start : PosixTree) (history : List Entry) (entry : Entry) (p : Parts) → geometry_of_store s ≡ g
    → IsLegal start (history ++ entry ∷ []) → (is_ok entry.reply ≡ false) ⊎ (asks_commit entry.op ≡ false) → ArePartsOf p (tree_after start (history ++ entry ∷ []))
    → (tree_after start (history ++ entry ∷ [])).bytes ≡ (tree_after start history).bytes → IsOnDisk s start history p → IsOnDisk s start (history ++ entry ∷ []) p

-- An `fsync` of a directory, where all changes of names stand on the disk,
abbrev pub NamesAreSynced : Geometry → Type 0
NamesAreSynced g = (s : StoreState) (start : PosixTree) (history : List Entry) (entry : Entry) (p : Parts) (fd : ℕ) → geometry_of_store s ≡ g
    → IsLegal start (history ++ entry ∷ []) → entry.op ≡ op.Fsync fd → (opened (tree_after start history) entry.client fd).file ≡ None → HasNames s start history p → IsOnDisk s start (history ++ entry ∷ []) p

-- one of a file, where all its changes do,
abbrev pub FileIsSynced : Geometry → Type 0
FileIsSynced g = (s : StoreState) (start : PosixTree) (history : List Entry) (entry : Entry) (p : Parts) (fd file : ℕ) → geometry_of_store s ≡ g
    → IsLegal start (history ++ entry ∷ []) → entry.op ≡ op.Fsync fd → (opened (tree_after start history) entry.client fd).file ≡ Some file → HasFile s start history p file → IsOnDisk s start (history ++ entry ∷ []) p

-- and a `sync`, where everything does.
abbrev pub AllIsSynced : Geometry → Type 0
AllIsSynced g = (s : StoreState) (start : PosixTree) (history : List Entry) (entry : Entry) (p : Parts) → geometry_of_store s ≡ g
    → IsLegal start (history ++ entry ∷ []) → entry.op ≡ op.Sync → HasAll s start history p → IsOnDisk s start (history ++ entry ∷ []) p

-- ---- where a store stops

-- At a read or a barrier that failed: the disk has the ledger that it had.
abbrev pub BarriersStop : Geometry → Type 0
BarriersStop g = (s : StoreState) (l : Ledger) (start : PosixTree) (history : List Entry) (counts : Counts) (p : Parts) → geometry_of_store s ≡ g → geometry_of l.superblock ≡ g → IsSome s.stop
    → IsLedgerOf s.sectors s.moments.state l → IsStored l s.unassigned.free start history counts p → HasStoppedBy s start history p counts counts

-- At a write that failed, of a block that a directory took.
abbrev pub WritesStop : Geometry → Type 0
WritesStop g = (s : StoreState) (l : Ledger) (start : PosixTree) (history : List Entry) (counts : Counts) (p : Parts) (block : ℕ) (bytes seen : List ℕ) → geometry_of_store s ≡ g → geometry_of l.superblock ≡ g → IsSome s.stop
    → l.maybe ≡ None → has p.fresh block ≡ true → IsLedgerOf s.sectors s.moments.state (tried block bytes seen l) → IsStored l s.unassigned.free start history counts p → HasStoppedBy s start history p counts counts

-- At a checkpoint that failed.
abbrev pub CheckpointsStop : Geometry → Type 0
CheckpointsStop g = (old s : StoreState) (l : Ledger) (start : PosixTree) (history : List Entry) (counts : Counts) (p : Parts) → geometry_of_store s ≡ g → geometry_of l.superblock ≡ g → IsSome s.stop
    → HasLedger old l → HasAny s (l ∷ beginning_next old l ∷ []) → IsStored l s.unassigned.free start history counts p → HasStoppedBy s start history p counts counts

-- At a commit that failed, where it would have kept the promise by these counts.
abbrev pub CommitsStop : Geometry → Type 0
CommitsStop g = (old s : StoreState) (records : List LogRecord) (l : Ledger) (start : PosixTree) (history : List Entry) (counts next : Counts) (p : Parts) → geometry_of_store s ≡ g → geometry_of l.superblock ≡ g → IsSome s.stop
    → HasLedger old l → HasAny s (stages old records l) → IsLedgerKept (committing (next_commit old records) (settled (with_room old records l))) start history counts next
    → IsStored l s.unassigned.free start history counts p → HasStoppedBy s start history p counts next
