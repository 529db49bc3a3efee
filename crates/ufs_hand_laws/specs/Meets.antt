-- The conditions of what the store does are met by the trees to which the disk's images open, without a word of the history.
use Rattle.std.specs.Prelude.{ℕ, ◌+◌, ◌≡◌, ◌⊎◌, ◌≤◌, Bool, true, false, List, [], ◌∷◌, length, Some, None, slice_get, slice_index_or}
use Rattle.std.specs.FinMap as fin
use Rattle.ufs_model.specs.Start.{PathNodes}
use Rattle.ufs_model.specs.declared.data.Node.TheVariants.{File}
use Rattle.ufs_model.specs.declared.data.PathNode.TheVariants as path_node
use Rattle.ufs_model.specs.PosixTree.{Paths}
use Rattle.ufs_model.specs.FileBytes.{bytes_of}
use Rattle.ufs_crash_laws.specs.FileChanges.{all_changed}
use Rattle.ufs_crash_laws.specs.Changes.{names_of}
use Rattle.ufs_hand_laws.specs.Owned.{Has, times}
use Rattle.ufs_hand_laws.specs.Parts.{Cells, FilePart, NamesPart, StorePart, View, Start, uses, committed}
use Rattle.ufs_hand_laws.specs.DiskBytes.{block_on, block_in, is_loaded}
use Rattle.ufs_hand_laws.specs.Marks.{IsMadeBy}
use Rattle.ufs_hand_laws.specs.Events.{IsLent, Passage, MayPass, MayCommitFile, NamesCommit, MayCommitNames, Failure, MayFail, Checkpoint, MayCheckpoint}
use Rattle.ufs_hand_laws.specs.Shown.{OpensAs}
use Rattle.ufs_hand_laws.specs.Commits.{TreesGo, TreesMayGo, IsWrittenBack, IsFileCommitted, AreNamesCommitted, AreFresh}
use Rattle.ufs_hand_laws.specs.ByImages.{by_images}
use Rattle.ufs_hand_laws.specs.Visible.{IsDiskVisible}

-- ---- a block is written, or a barrier passed

-- At the path stands a file that the hand lent to the store. It is as long as it was, and has at each place what it had or
-- what the file has now.
pub record IsFileWrittenBy (v : View) (s : StorePart) (paths : Paths) (before after : PathNodes) (path : List ℕ) : Type 0 where
  pub file : ℕ
  pub part : FilePart
  pub held : Has (file, part) v.files
  pub lent : Has (file, length part.changes) s.lent
  pub named : fin.get paths path ≡ Some (File file)
  pub old : List ℕ
  pub was : fin.get before path ≡ Some (path_node.File old)
  pub new : List ℕ
  pub is : fin.get after path ≡ Some (path_node.File new)
  pub back : IsWrittenBack old new part.bytes

abbrev pub AreFilesWrittenBy : View → StorePart → Paths → PathNodes → PathNodes → Type 0
AreFilesWrittenBy v s paths before after = (path : List ℕ) → (fin.get after path ≡ fin.get before path) ⊎ IsFileWrittenBy v s paths before after path

-- the hand's files have the bytes that their changes make: what a hand knows
abbrev pub HaveTheirBytes : Start → View → Type 0
HaveTheirBytes k v = (g : ℕ) (x : FilePart) → Has (g, x) v.files → all_changed (bytes_of k.tree.bytes g) x.changes ≡ x.bytes

-- In a turn to which the files are lent, blocks of them are written.
pub record Passes (k : Start) (v : View) (s : StorePart) (lent : List (ℕ × ℕ)) (lent_names : ℕ) (paths : Paths) (c : Passage) : Type 0 where
  pub store : v.store ≡ (tt, s) ∷ []
  pub told : s.paths ≡ Some paths
  pub lends : IsLent v lent lent_names
  pub bytes : HaveTheirBytes k v
  pub last : (c.state ≡ s.state) ⊎ Has c.state c.through
  pub others : IsDiskVisible k → (b : ℕ) → uses b v ≡ 0 → 1 ≤ uses b k.view → block_on c.state b ≡ block_on s.state b
  pub own : IsDiskVisible k → (g : ℕ) (x : FilePart) → Has (g, x) v.files → (place b : ℕ) → slice_get x.blocks place ≡ Some b → is_loaded x place ≡ false
      → (block_on c.state b ≡ block_in x.bytes place) ⊎ (block_on c.state b ≡ block_on s.state b)
  pub trees : IsDiskVisible k → TreesGo (AreFilesWrittenBy v s paths) s.state c.state
  pub between : IsDiskVisible k → (d : Cells) → Has d c.through → TreesMayGo (AreFilesWrittenBy v s paths) s.state d

abbrev pub PassagesMay : Type 0
PassagesMay = (k : Start) (v : View) (s : StorePart) (lent : List (ℕ × ℕ)) (lent_names : ℕ) (paths : Paths) (c : Passage) → Passes k v s lent lent_names paths c → MayPass by_images k v s lent lent_names c

-- ---- a file

-- In a turn to which the file is lent, the disk goes from trees with a path map to trees with that file's bytes.
pub record CommitsFile (k : Start) (v : View) (g : ℕ) (x : FilePart) (s : StorePart) (paths : Paths) (through : List Cells) (state : Cells) : Type 0 where
  pub file : v.files ≡ (g, x) ∷ []
  pub store : v.store ≡ (tt, s) ∷ []
  pub born : x.born ≡ true
  pub told : s.paths ≡ Some paths
  pub lent : s.lent ≡ (g, length x.changes) ∷ []
  -- what the hand knows of the file
  pub made : committed s g ≤ length x.changes
  pub bytes : all_changed (bytes_of k.tree.bytes g) x.changes ≡ x.bytes
  pub last : (state ≡ s.state) ⊎ Has state through
  pub others : IsDiskVisible k → (b : ℕ) → uses b v ≡ 0 → 1 ≤ uses b k.view → block_on state b ≡ block_on s.state b
  pub own : IsDiskVisible k → (place b : ℕ) → slice_get x.blocks place ≡ Some b → is_loaded x place ≡ false → block_on state b ≡ block_on s.state b
  pub trees : IsDiskVisible k → TreesGo (IsFileCommitted paths g x.bytes) s.state state
  pub between : IsDiskVisible k → (d : Cells) → Has d through → TreesMayGo (IsFileCommitted paths g x.bytes) s.state d

abbrev pub FileCommitsMay : Type 0
FileCommitsMay = (k : Start) (tickets : ℕ) (v : View) (g : ℕ) (x : FilePart) (s : StorePart) (paths : Paths) (through : List Cells) (state : Cells) → CommitsFile k v g x s paths through state
    → MayCommitFile by_images k tickets v g x s through state

-- ---- the names

pub record CommitsNames (k : Start) (v : View) (p : NamesPart) (s : StorePart) (paths : Paths) (fresh : ℕ → Bool) (c : NamesCommit) : Type 0 where
  pub names : v.names ≡ (tt, p) ∷ []
  pub store : v.store ≡ (tt, s) ∷ []
  pub told : s.paths ≡ Some paths
  pub lent : s.lent_names ≡ length p.changes
  -- what the hand knows of the names
  pub made : s.names ≤ length p.changes
  pub last_names : (slice_index_or (names_of k.tree ∷ p.changes) (length p.changes) (names_of k.tree)).paths ≡ p.paths
  pub new : AreFresh fresh k.tree (committed s)
  pub fewer : (g : ℕ) (bs : List ℕ) → fin.get c.extents g ≡ Some bs → fin.get s.extents g ≡ Some bs
  pub gone : (g : ℕ) (bs : List ℕ) → Has (g, bs) p.dropped → fin.get c.extents g ≡ None
  pub dirs : ((b : ℕ) → Has b s.dirs → Has b p.blocks) → (b : ℕ) → Has b c.dirs → Has b p.blocks
  pub born : (g : ℕ) → Has g c.born → Has g p.born ⊎ IsMadeBy p (length p.changes) g
  pub last : (c.state ≡ s.state) ⊎ Has c.state c.through
  pub others : IsDiskVisible k → (b : ℕ) → uses b v ≡ 0 → 1 ≤ uses b k.view → block_on c.state b ≡ block_on s.state b
  pub own : IsDiskVisible k → (g : ℕ) (x : FilePart) → Has (g, x) v.files → (place b : ℕ) → slice_get x.blocks place ≡ Some b → is_loaded x place ≡ false → block_on c.state b ≡ block_on s.state b
  pub trees : IsDiskVisible k → TreesGo (AreNamesCommitted fresh paths p.paths) s.state c.state
  pub between : IsDiskVisible k → (d : Cells) → Has d c.through → TreesMayGo (AreNamesCommitted fresh paths p.paths) s.state d

abbrev pub NameCommitsMay : Type 0
NameCommitsMay = (k : Start) (tickets : ℕ) (v : View) (p : NamesPart) (s : StorePart) (paths : Paths) (fresh : ℕ → Bool) (c : NamesCommit) → CommitsNames k v p s paths fresh c → MayCommitNames by_images k tickets v p s c

-- ---- what fails

-- a file that was lent to the store is committed
pub record IsFileCommittedBy (v : View) (s : StorePart) (paths : Paths) (before after : PathNodes) : Type 0 where
  pub file : ℕ
  pub part : FilePart
  pub held : Has (file, part) v.files
  pub lent : Has (file, length part.changes) s.lent
  pub made : committed s file ≤ length part.changes
  pub goes : IsFileCommitted paths file part.bytes before after

-- the names that were lent to the store are committed
pub record AreNamesCommittedBy (k : Start) (v : View) (s : StorePart) (paths : Paths) (before after : PathNodes) : Type 0 where
  pub part : NamesPart
  pub held : Has (tt, part) v.names
  pub lent : s.lent_names ≡ length part.changes
  pub made : s.names ≤ length part.changes
  pub last_names : (slice_index_or (names_of k.tree ∷ part.changes) (length part.changes) (names_of k.tree)).paths ≡ part.paths
  pub fresh : ℕ → Bool
  pub new : AreFresh fresh k.tree (committed s)
  pub goes : AreNamesCommitted fresh paths part.paths before after

-- what a call may have done before it failed
abbrev pub MayHaveDone : Start → View → StorePart → Paths → PathNodes → PathNodes → Type 0
MayHaveDone k v s paths before after = AreFilesWrittenBy v s paths before after ⊎ (IsFileCommittedBy v s paths before after ⊎ AreNamesCommittedBy k v s paths before after)

pub record Fails (k : Start) (v : View) (s : StorePart) (paths : Paths) (f : Failure) : Type 0 where
  pub store : v.store ≡ (tt, s) ∷ []
  pub running : s.stop ≡ None
  pub new : times f.fault s.faults ≡ 0
  pub told : s.paths ≡ Some paths
  pub bytes : HaveTheirBytes k v
  pub last : Has f.state f.through
  pub others : IsDiskVisible k → (b : ℕ) → uses b v ≡ 0 → 1 ≤ uses b k.view → block_on f.state b ≡ block_on s.state b
  pub own : IsDiskVisible k → (g : ℕ) (x : FilePart) → Has (g, x) v.files → (place b : ℕ) → slice_get x.blocks place ≡ Some b → is_loaded x place ≡ false → block_on f.state b ≡ block_on s.state b
  pub between : IsDiskVisible k → (d : Cells) → Has d f.through → TreesMayGo (MayHaveDone k v s paths) s.state d

abbrev pub FailuresMay : Type 0
FailuresMay = (k : Start) (v : View) (s : StorePart) (paths : Paths) (f : Failure) → Fails k v s paths f → MayFail by_images k v s f

-- ---- what a call may have done

-- Where each image opens as one of before does, nothing is done,
abbrev pub NothingIsDone : Type 0
NothingIsDone = (k : Start) (v : View) (s : StorePart) (paths : Paths) (old new : Cells) → OpensAs old new → TreesMayGo (MayHaveDone k v s paths) old new

-- and nothing is written, as by a barrier.
abbrev pub NothingIsWritten : Type 0
NothingIsWritten = (v : View) (s : StorePart) (paths : Paths) (old new : Cells) → OpensAs old new → TreesGo (AreFilesWrittenBy v s paths) old new

abbrev pub WritesAreDone : Type 0
WritesAreDone = (k : Start) (v : View) (s : StorePart) (paths : Paths) (old new : Cells) → TreesMayGo (AreFilesWrittenBy v s paths) old new → TreesMayGo (MayHaveDone k v s paths) old new

abbrev pub FileCommitsAreDone : Type 0
FileCommitsAreDone = (k : Start) (v : View) (s : StorePart) (paths : Paths) (file : ℕ) (x : FilePart) (old new : Cells) → Has (file, x) v.files → Has (file, length x.changes) s.lent → committed s file ≤ length x.changes
    → TreesMayGo (IsFileCommitted paths file x.bytes) old new → TreesMayGo (MayHaveDone k v s paths) old new

abbrev pub NameCommitsAreDone : Type 0
NameCommitsAreDone = (k : Start) (v : View) (s : StorePart) (paths : Paths) (fresh : ℕ → Bool) (p : NamesPart) (old new : Cells) → Has (tt, p) v.names → s.lent_names ≡ length p.changes → s.names ≤ length p.changes
    → (slice_index_or (names_of k.tree ∷ p.changes) (length p.changes) (names_of k.tree)).paths ≡ p.paths → AreFresh fresh k.tree (committed s)
    → TreesMayGo (AreNamesCommitted fresh paths p.paths) old new → TreesMayGo (MayHaveDone k v s paths) old new

-- ---- a checkpoint

-- Each image on the way opens as one from before does.
pub record Checkpoints (k : Start) (v : View) (p : NamesPart) (s : StorePart) (c : Checkpoint) : Type 0 where
  pub names : v.names ≡ (tt, p) ∷ []
  pub store : v.store ≡ (tt, s) ∷ []
  pub blocks : (b : ℕ) → times b c.blocks + times b c.freed ≡ times b p.blocks
  pub fewer : (b : ℕ) → Has b c.dirs → Has b s.dirs
  pub apart : (b : ℕ) → Has b c.dirs → Has b c.freed → ⊥
  pub last : (c.state ≡ s.state) ⊎ Has c.state c.through
  pub others : IsDiskVisible k → (b : ℕ) → uses b v ≡ 0 → 1 ≤ uses b k.view → block_on c.state b ≡ block_on s.state b
  pub own : IsDiskVisible k → (g : ℕ) (x : FilePart) → Has (g, x) v.files → (place b : ℕ) → slice_get x.blocks place ≡ Some b → is_loaded x place ≡ false → block_on c.state b ≡ block_on s.state b
  pub same : IsDiskVisible k → OpensAs s.state c.state
  pub between : IsDiskVisible k → (d : Cells) → Has d c.through → OpensAs s.state d

abbrev pub CheckpointsMay : Type 0
CheckpointsMay = (k : Start) (v : View) (p : NamesPart) (s : StorePart) (c : Checkpoint) → Checkpoints k v p s c → MayCheckpoint by_images k v p s c
