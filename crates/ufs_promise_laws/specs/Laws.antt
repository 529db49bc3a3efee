-- How a server keeps its promise from one event to the next.
use Rattle.std.specs.Prelude.{ℕ, ◌≡◌, ◌+◌, ◌<◌, ◌≤◌, ◌^◌, ◌⊎◌, IsSome, length, None, List, [], ◌∷◌, ◌++◌, Bool, true, false, Option, Some}
use Rattle.std.specs.FinMap as map
use Rattle.std.specs.FinSet as set
use Rattle.ufs_base.specs.Images.{Image}
use Rattle.ufs_bitmap.specs.Blocks.{BlockSet}
use Rattle.ufs_bitmap.specs.Taking.{has, set_of}
use Rattle.ufs_disk.specs.Moments.{LeavesOnly, Moments}
use Rattle.ufs_file.specs.Hand.{FileState}
use Rattle.ufs_ilog.specs.Deltas.{IsDelta}
use Rattle.ufs_image.specs.Catalog.{IsInode}
use Rattle.ufs_image.specs.Sound.{IsSoundCatalog}
use Rattle.ufs_layout.specs.Superblock.{geometry_of}
use Rattle.ufs_layout.specs.declared.geometry.Geometry.{Geometry}
use Rattle.ufs_layout.specs.declared.records.LogRecord.{LogRecord}
use Rattle.ufs_layout.specs.declared.superblock.Super.{Super}
use Rattle.ufs_ledger.specs.Changes.{MayCommit, committed_one, committing, emptied, settled, with_free_block, written}
use Rattle.ufs_ledger.specs.Kept.{Counts, IsLedgerKept, Numbers, OpensExplained}
use Rattle.ufs_ledger.specs.Ledger.{CoversDirs, IsLeftBy, Ledger}
use Rattle.ufs_model.specs.Asks.{IsAsk}
use Rattle.ufs_model.specs.Descriptors.{opened}
use Rattle.ufs_model.specs.FileBytes.{bytes_of}
use Rattle.ufs_model.specs.FileCalls.{is_on_file}
use Rattle.ufs_model.specs.History.{IsLegal, is_excused, tree_after}
use Rattle.ufs_model.specs.PosixTree.{PosixTree}
use Rattle.ufs_model.specs.declared.data.Actor.{Actor}
use Rattle.ufs_model.specs.declared.data.Ask.{Ask}
use Rattle.ufs_model.specs.declared.data.Desc.{Desc}
use Rattle.ufs_model.specs.declared.data.Entry.{Entry}
use Rattle.ufs_model.specs.declared.data.Op.{Op}
use Rattle.ufs_model.specs.declared.data.Op.TheVariants as op
use Rattle.ufs_dir_tree.specs.Steps.{DirState, Step, after_all}
use Rattle.ufs_promise_laws.specs.Held.{HasSoundNames}
use Rattle.ufs_promise_laws.specs.ChangeLaws.{AreOlder}
use Rattle.ufs_name_tree.specs.NameTable.{IsNameTable}
use Rattle.ufs_name_tree.specs.Notes.{GoesNoted, IsStateOf, is_touched}
use Rattle.ufs_names.specs.Calls.{no_bytes}
use Rattle.ufs_names.specs.NamesPart.{AreInodesOf, NamesPart}
use Rattle.ufs_promise_laws.specs.PathNumbers.{numbers_of}
use Rattle.ufs_crash_laws.specs.Changes.{asks_commit, changes_of, name_changes}
use Rattle.ufs_crash_laws.specs.Explained.{IsAckCovered}
use Rattle.ufs_store.specs.Ledgers.{HasLedger}
use Rattle.ufs_store.specs.State.{StoreState}
use Rattle.ufs_file_commits.specs.Committing.{FitsInode, all_shown, once_committed}
use Rattle.ufs_file_commits.specs.Serving.{IsApplied}
use Rattle.ufs_file_commits.specs.Standing.{IsFileBlock}
use Rattle.ufs_file_commits.specs.State.{DurableState, IsNoted, file_committed, whole_of}
use Rattle.ufs_file_commits.specs.Writes.{with_writes, writes_of}
use Rattle.ufs_promise_laws.specs.Parts.{Parts, durable_in, with_file}
use Rattle.ufs_promise_laws.specs.Stored.{AreNamesStored, ArePartsOf, AreSpaced, IsFileWhole, IsSpelled, IsStored}

-- ---- what a crash leaves

-- Whatever a crash leaves opens to a tree that the history explains.
abbrev pub StoredIsExplained : Geometry → Type 0
StoredIsExplained g = (sectors : ℕ) (image : Image) (l : Ledger) (unassigned : BlockSet) (start : PosixTree) (history : List Entry) (counts : Counts) (p : Parts) → geometry_of l.superblock ≡ g
    → IsStored l unassigned start history counts p → IsLeftBy sectors l image → OpensExplained sectors start history image

-- So at each moment of calls that leave what the ledger has.
abbrev pub CallsAreExplained : Geometry → Type 0
CallsAreExplained g = (keeps : Bool) (sectors : ℕ) (old new : Moments) (l : Ledger) (unassigned : BlockSet) (start : PosixTree) (history : List Entry) (counts : Counts) (p : Parts) → geometry_of l.superblock ≡ g
    → IsStored l unassigned start history counts p → LeavesOnly keeps (IsLeftBy sectors l) old new → LeavesOnly keeps (OpensExplained sectors start history) old new

-- ---- an entry is drawn

-- An entry that leaves the parts and the bytes of files as they are, and whose acknowledgement is covered: a request that reads, and
-- one that syncs.
abbrev pub QuietEntriesKeep : Geometry → Type 0
QuietEntriesKeep g = (l : Ledger) (unassigned : BlockSet) (start : PosixTree) (history : List Entry) (entry : Entry) (counts : Counts) (p : Parts) → geometry_of l.superblock ≡ g
    → IsLegal start (history ++ entry ∷ []) → IsAckCovered start history entry counts.names counts.files → ArePartsOf p (tree_after start (history ++ entry ∷ []))
    → (tree_after start (history ++ entry ∷ [])).bytes ≡ (tree_after start history).bytes → IsStored l unassigned start history counts p → IsStored l unassigned start (history ++ entry ∷ []) counts p

-- An excused one.
abbrev pub ExcusesKeep : Geometry → Type 0
ExcusesKeep g = (l : Ledger) (unassigned : BlockSet) (start : PosixTree) (history : List Entry) (entry : Entry) (counts : Counts) (p : Parts) → geometry_of l.superblock ≡ g
    → IsLegal start (history ++ entry ∷ []) → is_excused entry.reply ≡ true → IsStored l unassigned start history counts p → IsStored l unassigned start (history ++ entry ∷ []) counts p

-- the request changes nothing of a tree
abbrev pub leaves_tree : Op → Bool
leaves_tree (op.Pread fd n at) = true
leaves_tree (op.Fsync fd) = true
leaves_tree op.Sync = true
leaves_tree (op.Stat path) = true
leaves_tree (op.List path) = true
leaves_tree _ = false

-- One of such a request, whose acknowledgement is covered.
abbrev pub StillEntriesKeep : Geometry → Type 0
StillEntriesKeep g = (l : Ledger) (unassigned : BlockSet) (start : PosixTree) (history : List Entry) (entry : Entry) (counts : Counts) (p : Parts) → geometry_of l.superblock ≡ g
    → IsLegal start (history ++ entry ∷ []) → leaves_tree entry.op ≡ true → IsAckCovered start history entry counts.names counts.files
    → IsStored l unassigned start history counts p → IsStored l unassigned start (history ++ entry ∷ []) counts p

-- One of a request on a file, which went by what such a file tells of it.
abbrev pub FileEntriesKeep : Geometry → Type 0
FileEntriesKeep g = (l : Ledger) (unassigned : BlockSet) (start : PosixTree) (history : List Entry) (entry : Entry) (counts : Counts) (p : Parts) (f : FileState) (next : DurableState) (pool : BlockSet)
    (ask : Ask) (server : Actor) (ticket : ℕ) (desc : Option Desc) (d : Desc) → geometry_of l.superblock ≡ g → IsLegal start (history ++ entry ∷ []) → asks_commit entry.op ≡ false
    → map.get p.files f.file ≡ Some f → is_on_file ask.op ≡ true → IsAsk (tree_after start history) ask → ask.desc ≡ Some d → d.file ≡ Some f.file
    → IsApplied (durable_in p.commits f) next p.pool pool ask server ticket entry desc
    → IsStored l unassigned start history counts p → IsStored l unassigned start (history ++ entry ∷ []) counts (with_file next pool p)

-- ---- what is acknowledged

-- An `fsync` of a file that has an inode on the disk, where all its changes stand there.
abbrev pub FsyncsKeep : Geometry → Type 0
FsyncsKeep g = (l : Ledger) (unassigned : BlockSet) (start : PosixTree) (history : List Entry) (entry : Entry) (counts : Counts) (p : Parts) (fd file : ℕ) → geometry_of l.superblock ≡ g
    → IsLegal start (history ++ entry ∷ []) → entry.op ≡ op.Fsync fd → (opened (tree_after start history) entry.client fd).file ≡ Some file
    → IsSome (counts.numbers.inode file) → length (changes_of file start history) ≤ counts.files file
    → IsStored l unassigned start history counts p → IsStored l unassigned start (history ++ entry ∷ []) counts p

-- One of a directory, where all changes of names do.
abbrev pub DirFsyncsKeep : Geometry → Type 0
DirFsyncsKeep g = (l : Ledger) (unassigned : BlockSet) (start : PosixTree) (history : List Entry) (entry : Entry) (counts : Counts) (p : Parts) (fd : ℕ) → geometry_of l.superblock ≡ g
    → IsLegal start (history ++ entry ∷ []) → entry.op ≡ op.Fsync fd → (opened (tree_after start history) entry.client fd).file ≡ None → length (name_changes start history) ≤ counts.names
    → IsStored l unassigned start history counts p → IsStored l unassigned start (history ++ entry ∷ []) counts p

-- A `sync`, where everything does.
abbrev pub SyncsKeep : Geometry → Type 0
SyncsKeep g = (l : Ledger) (unassigned : BlockSet) (start : PosixTree) (history : List Entry) (entry : Entry) (counts : Counts) (p : Parts) → geometry_of l.superblock ≡ g
    → IsLegal start (history ++ entry ∷ []) → entry.op ≡ op.Sync → length (name_changes start history) ≤ counts.names → ((file : ℕ) → length (changes_of file start history) ≤ counts.files file)
    → IsStored l unassigned start history counts p → IsStored l unassigned start (history ++ entry ∷ []) counts p

-- ---- blocks that directories took

-- One is written: with zeros, say.
abbrev pub WrittenIsStored : Geometry → Type 0
WrittenIsStored g = (l : Ledger) (unassigned : BlockSet) (start : PosixTree) (history : List Entry) (counts : Counts) (p : Parts) (block : ℕ) (bytes : List ℕ) → geometry_of l.superblock ≡ g → l.maybe ≡ None → has p.fresh block ≡ true
    → IsStored l unassigned start history counts p → IsStored (written block bytes l) unassigned start history counts p

-- A barrier settles what was written.
abbrev pub SettledIsStored : Geometry → Type 0
SettledIsStored g = (l : Ledger) (unassigned : BlockSet) (start : PosixTree) (history : List Entry) (counts : Counts) (p : Parts) → geometry_of l.superblock ≡ g → l.maybe ≡ None
    → IsStored l unassigned start history counts p → IsStored (settled l) unassigned start history counts p

-- Once it is zero dentries may be set there.
abbrev pub SpelledIsStored : Geometry → Type 0
SpelledIsStored g = (l : Ledger) (unassigned : BlockSet) (start : PosixTree) (history : List Entry) (counts : Counts) (p : Parts) (block : ℕ) → geometry_of l.superblock ≡ g → l.maybe ≡ None → IsSoundCatalog g l.now.catalog → CoversDirs g l.now
    → has p.fresh block ≡ true → IsFileBlock l block → IsStored l unassigned start history counts p → IsStored (record l { now = with_free_block block l.now }) unassigned start history counts p

-- A checkpoint keeps all.
abbrev pub EmptiedIsStored : Geometry → Type 0
EmptiedIsStored g = (l : Ledger) (unassigned : BlockSet) (start : PosixTree) (history : List Entry) (counts : Counts) (p : Parts) (superblock : Super) (home : ℕ → List ℕ) → geometry_of l.superblock ≡ g → geometry_of superblock ≡ g
    → IsStored l unassigned start history counts p → IsStored (emptied superblock home l) unassigned start history counts p

-- ---- free blocks

-- Each block of the second two sets was in the first two, and none is in both of the second.
pub record MovesBlocks (one other new rest : BlockSet) : Type 0 where
  pub pool : (block : ℕ) → set.contains new block ≡ true → (set.contains one block ≡ true) ⊎ (set.contains other block ≡ true)
  pub store : (block : ℕ) → set.contains rest block ≡ true → (set.contains one block ≡ true) ⊎ (set.contains other block ≡ true)
  pub apart : (block : ℕ) → set.contains new block ≡ true → set.contains rest block ≡ false

-- Blocks go from the store to the server's pool, or back.
abbrev pub BlocksMove : Type 0
BlocksMove = (l : Ledger) (unassigned rest : BlockSet) (start : PosixTree) (history : List Entry) (counts : Counts) (p : Parts) (pool : BlockSet) → MovesBlocks p.pool unassigned pool rest
    → IsStored l unassigned start history counts p → IsStored l rest start history counts (record p { pool = pool })

-- ---- a commit of names

-- the parts once their names are committed
abbrev pub with_names_committed : Parts → Parts
with_names_committed p = record p { names = record (p.names) { tree = record (p.names.tree) { noted = Some [] } }; fresh = [] }

-- All changes of names stand on the disk, with the inodes that these names have.
abbrev pub all_named : PosixTree → List Entry → NamesPart → Counts → Counts
all_named start history n k = record { names = length (name_changes start history); files = k.files; numbers = numbers_of n }

-- The names have these records to commit with this number, which is above each inode's; and dentries may be set in the blocks that
-- directories took.
pub record HasNamesToCommit (g : Geometry) (l : Ledger) (p : Parts) (number : ℕ) (records : List LogRecord) : Type 0 where
  pub geometry : geometry_of l.superblock ≡ g
  pub none : l.maybe ≡ None
  pub noted : p.names.tree.noted ≡ Some records
  pub table : IsNameTable p.names.tree
  pub ready : (block : ℕ) → has p.fresh block ≡ true → IsSpelled l block
  pub older : AreOlder g l.now.catalog number

-- They may be committed,
abbrev pub NamesMayCommit : Geometry → Type 0
NamesMayCommit g = (l : Ledger) (unassigned : BlockSet) (start : PosixTree) (history : List Entry) (counts : Counts) (p : Parts) (number : ℕ) (records : List LogRecord) → HasNamesToCommit g l p number records → CoversDirs g l.now → number < 2 ^ 64
    → IsStored l unassigned start history counts p → MayCommit g (record { number = number; records = records }) l.now

-- a crash meanwhile, and for good where that failed, leaves what the history explains,
abbrev pub NamesAreCommitting : Geometry → Type 0
NamesAreCommitting g = (l : Ledger) (unassigned : BlockSet) (start : PosixTree) (history : List Entry) (counts : Counts) (p : Parts) (number : ℕ) (records : List LogRecord) → HasNamesToCommit g l p number records
    → IsStored l unassigned start history counts p → IsLedgerKept (committing (record { number = number; records = records }) (settled l)) start history counts (all_named start history p.names counts)

-- and once they are committed the server is stored with all its names.
abbrev pub NamesAreCommitted : Geometry → Type 0
NamesAreCommitted g = (l : Ledger) (unassigned : BlockSet) (start : PosixTree) (history : List Entry) (counts : Counts) (p : Parts) (number : ℕ) (records : List LogRecord) → HasNamesToCommit g l p number records
    → IsStored l unassigned start history counts p
    → IsStored (committed_one (record { number = number; records = records }) l) unassigned start history (all_named start history p.names counts) (with_names_committed p)

-- ---- a commit of a file

-- Behind the commit of what changed of a file that has an inode on the disk, with its blocks written before, the server is stored
-- with all its changes, and what it dropped is unassigned.
abbrev pub FilesAreCommitted : Type 0
FilesAreCommitted = (s : StoreState) (between : Moments) (records : List LogRecord) (l : Ledger) (unassigned : BlockSet) (start : PosixTree) (history : List Entry) (counts : Counts) (p : Parts) (f : FileState)
    → HasLedger s l → map.get p.files f.file ≡ Some f → IsDelta (durable_in p.commits f).log.inode (durable_in p.commits f).log.committed (durable_in p.commits f).log.noted records → FitsInode f → IsSome (counts.numbers.inode f.file)
    → IsStored l unassigned start history counts p
    → IsStored (once_committed s between records (durable_in p.commits f) l) (set.union unassigned (set_of (durable_in p.commits f).dropped)) start history (all_shown f start history counts)
    (with_file (file_committed (durable_in p.commits f)) p.pool p)

-- Where nothing but bytes changed, the barrier behind its writes does it.
abbrev pub FilesAreSettled : Type 0
FilesAreSettled = (s : StoreState) (l : Ledger) (unassigned : BlockSet) (start : PosixTree) (history : List Entry) (counts : Counts) (p : Parts) (f : FileState)
    → HasLedger s l → map.get p.files f.file ≡ Some f → (durable_in p.commits f).log.noted ≡ (durable_in p.commits f).log.committed → IsSome (counts.numbers.inode f.file)
    → IsStored l unassigned start history counts p
    → IsStored (settled (with_writes (writes_of f) l)) (set.union unassigned (set_of (durable_in p.commits f).dropped)) start history (all_shown f start history counts)
    (with_file (file_committed (durable_in p.commits f)) p.pool p)

-- ---- a change of names

-- Each file that is live now kept its inode, which no step touches; or it has none on the disk, and the steps gave it one.
pub record KeepsNumbers (numbers : Numbers) (old new : NamesPart) (xs : List Step) : Type 0 where
  pub each : (file : ℕ) → IsSome (map.get new.held file)
      → (IsSome (map.get old.held file) × ((numbers_of new).inode file ≡ (numbers_of old).inode file) × ((inode : ℕ) → (numbers_of old).inode file ≡ Some inode → is_touched xs inode ≡ false))
      ⊎ ((numbers.inode file ≡ None) × ((inode : ℕ) → (numbers_of new).inode file ≡ Some inode → is_touched xs inode ≡ true))

-- What its notes tell of a change goes on from the disk, where the blocks that the directories were lent are fresh now, and the
-- steps leave sound names.
abbrev pub NotesGoOn : Geometry → Type 0
NotesGoOn g = (l : Ledger) (unassigned : BlockSet) (start : PosixTree) (history : List Entry) (counts : Counts) (p : Parts) (new : NamesPart) (lent : List ℕ) (pool : BlockSet) (go : GoesNoted p.names.tree new.tree pool) → geometry_of l.superblock ≡ g
    → length p.names.tree.dirs.dirs ≡ g.inodes + 1
    → ((block : ℕ) → set.contains pool block ≡ true → has lent block ≡ true) → ((block : ℕ) → has lent block ≡ true → set.contains p.pool block ≡ true)
    → ((s : DirState) → IsStateOf p.names.tree pool s → HasSoundNames g s → HasSoundNames g (after_all go.steps s)) → KeepsNumbers counts.numbers p.names new go.steps → AreInodesOf new.tree new.held
    → IsStored l unassigned start history counts p → AreNamesStored l counts.numbers (p.fresh ++ lent) new

-- ---- an entry of the names

-- A file without a byte that no commit gave an inode yet, of which nothing is known.
pub record IsNewFile (l : Ledger) (numbers : Numbers) (p : Parts) (f : FileState) : Type 0 where
  pub empty : f ≡ no_bytes f.file f.inode
  pub unknown : map.get p.commits f.file ≡ None
  pub unborn : numbers.inode f.file ≡ None
  pub in_range : IsInode (geometry_of l.superblock) f.inode

-- The file has its log in step with it, and is whole with the tree's bytes.
abbrev pub IsWholeIn : PosixTree → Ledger → Numbers → Parts → ℕ → FileState → Type 0
IsWholeIn t l numbers p file f = IsNoted (durable_in p.commits f) × IsFileWhole l numbers (whole_of (bytes_of t.bytes file) (durable_in p.commits f))

-- The file was here, with the same bytes in the tree and the same known of its commits; or it is new; or it is whole however it
-- changed.
abbrev pub StaysOrNew : (before after : PosixTree) → Ledger → Numbers → Parts → Parts → ℕ → FileState → Type 0
StaysOrNew before after l numbers old new file f =
    ((map.get old.files file ≡ Some f) × (durable_in new.commits f ≡ durable_in old.commits f) × (map.get after.bytes file ≡ map.get before.bytes file))
    ⊎ (IsNewFile l numbers new f ⊎ IsWholeIn after l numbers new file f)

-- One of a request of the names, behind which these are stored, and blocks are spaced.
abbrev pub NameEntriesKeep : Geometry → Type 0
NameEntriesKeep g = (l : Ledger) (unassigned : BlockSet) (start : PosixTree) (history : List Entry) (entry : Entry) (counts : Counts) (p next : Parts) → geometry_of l.superblock ≡ g
    → IsLegal start (history ++ entry ∷ []) → IsAckCovered start history entry counts.names counts.files → ArePartsOf next (tree_after start (history ++ entry ∷ []))
    → AreNamesStored l counts.numbers next.fresh next.names → ((file : ℕ) (f : FileState) → map.get next.files file ≡ Some f → StaysOrNew (tree_after start history) (tree_after start (history ++ entry ∷ [])) l counts.numbers p next file f) → AreSpaced l unassigned counts.numbers next
    → IsStored l unassigned start history counts p → IsStored l unassigned start (history ++ entry ∷ []) counts next
