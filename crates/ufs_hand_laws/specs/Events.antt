-- Events without an entry, each with what it asks of its own hand: blocks move, a store turn begins, parts learn, and the
-- store writes a block, commits, checkpoints, fails or refuses.
use Rattle.std.specs.Prelude.{ℕ, ◌+◌, ◌≤◌, ◌≡◌, ◌⊎◌, eqb, true, false, List, [], ◌∷◌, ◌++◌, length, Some, None, slice_get}
use Rattle.std.specs.FinMap as fin
use Rattle.std.specs.Ordering.{nat_cmp}
use Rattle.ufs_hand_laws.specs.Marks.{IsMadeBy}
use Rattle.ufs_model.specs.declared.data.Entry.{Entry}
use Rattle.ufs_hand_laws.specs.Owned.{Has, count, times}
use Rattle.ufs_crash_laws.specs.Changes.{changes_of, name_changes}
use Rattle.ufs_hand_laws.specs.Parts.{Cells, FilePart, NamesPart, Shortage, Start, StorePart, View, only_one, uses, committed}
use Rattle.ufs_hand_laws.specs.Explained.{Showing}
use Rattle.ufs_hand_laws.specs.DiskBytes.{block_on, block_in, is_loaded}
use Rattle.ufs_hand_laws.specs.Visible.{IsDiskVisible}

-- ---- blocks go between held parts

-- A file keeps its blocks but for spare ones, and those in memory stay there.
pub record IsFileMoved (x y : FilePart) : Type 0 where
  pub same : y ≡ record x { blocks = y.blocks; quarantine = y.quarantine; spare = y.spare; loaded = y.loaded }
  pub kept : (b : ℕ) → Has b x.blocks ⊎ Has b x.quarantine → Has b y.blocks ⊎ Has b y.quarantine
  pub loaded : (place b : ℕ) → slice_get y.blocks place ≡ Some b → is_loaded y place ≡ false → (slice_get x.blocks place ≡ Some b) × (is_loaded x place ≡ false)

-- The names keep their blocks, and those of dropped files, but for spare ones.
pub record AreNamesMoved (p q : NamesPart) : Type 0 where
  pub same : q ≡ record p { blocks = q.blocks; dropped = q.dropped; spare = q.spare }
  pub dropped : (g : ℕ) (bs : List ℕ) → Has (g, bs) p.dropped → Has (g, bs) q.dropped
  pub blocks : (b : ℕ) → Has b p.blocks → Has b q.blocks

pub record Moved : Type 0 where
  pub files : List (ℕ × FilePart)
  pub pools : List (ℕ × List ℕ)
  pub names : List (Unit {0} × NamesPart)
  pub store : List (Unit {0} × StorePart)

abbrev pub moved : ℕ → Moved → View → View
moved tickets m v = record v { files = m.files; pools = m.pools; names = m.names; store = m.store; seen = tickets }

pub record MayMove (v : View) (m : Moved) : Type 0 where
  pub file_names : (g : ℕ) → count eqb g m.files ≡ count eqb g v.files
  pub pool_names : (g : ℕ) → count eqb g m.pools ≡ count eqb g v.pools
  pub has_names : (u : Unit {0}) → count only_one u m.names ≡ count only_one u v.names
  pub has_store : (u : Unit {0}) → count only_one u m.store ≡ count only_one u v.store
  pub uses_stay : (b : ℕ) → uses b (moved 0 m v) ≡ uses b v
  pub files : (g : ℕ) (y : FilePart) → Has (g, y) m.files → (x : FilePart) × Has (g, x) v.files × IsFileMoved x y
  pub names : (u : Unit {0}) (q : NamesPart) → Has (u, q) m.names → (p : NamesPart) × Has (u, p) v.names × AreNamesMoved p q
  pub store : (u : Unit {0}) (t : StorePart) → Has (u, t) m.store → (s : StorePart) × Has (u, s) v.store × (t ≡ record s { unassigned = t.unassigned })

-- ---- a store turn begins

-- how many changes the files and the names that are lent have
pub record IsLent (v : View) (lent : List (ℕ × ℕ)) (lent_names : ℕ) : Type 0 where
  pub files : (g n : ℕ) → Has (g, n) lent → (x : FilePart) × Has (g, x) v.files × (n ≡ length x.changes)
  pub names : (lent_names ≡ 0) ⊎ ((p : NamesPart) × Has (tt, p) v.names × (lent_names ≡ length p.changes))

abbrev pub turn_begun : ℕ → List (ℕ × ℕ) → ℕ → StorePart → StorePart
turn_begun tickets lent lent_names s = record s { past = record { states = s.state ∷ []; from = s.mark; to = tickets } ∷ s.past; mark = tickets; lent = lent; lent_names = lent_names }

abbrev pub turning : ℕ → List (ℕ × ℕ) → ℕ → StorePart → View → View
turning tickets lent lent_names s v = record v { store = (tt, turn_begun tickets lent lent_names s) ∷ []; seen = tickets }

-- ---- a block is written, or a barrier passed

-- the states that the disk passed, and the one in which it is
pub record Passage : Type 0 where
  pub through : List Cells
  pub state : Cells

-- Nothing more is committed, and the paths stay.
abbrev pub passed : ℕ → List (ℕ × ℕ) → ℕ → Passage → StorePart → StorePart
passed tickets lent lent_names c s = record s {
  past = record { states = s.state ∷ c.through; from = s.mark; to = tickets } ∷ s.past;
  state = c.state;
  mark = tickets;
  lent = lent;
  lent_names = lent_names;
}

abbrev pub passing : ℕ → List (ℕ × ℕ) → ℕ → Passage → StorePart → View → View
passing tickets lent lent_names c s v = record v { store = (tt, passed tickets lent lent_names c s) ∷ []; seen = tickets }

-- The history has the changes of the hand's parts.
pub record HasHand (k : Start) (v : View) (h : List Entry) : Type 0 where
  pub files : (g : ℕ) (x : FilePart) → Has (g, x) v.files → changes_of g k.tree h ≡ x.changes
  pub names : (p : NamesPart) → Has (tt, p) v.names → name_changes k.tree h ≡ p.changes

-- The history has the changes of the hand's parts that were lent to the store since its last mark.
pub record HadLent (k : Start) (v : View) (s : StorePart) (h : List Entry) : Type 0 where
  pub files : (g : ℕ) (x : FilePart) → Has (g, x) v.files → Has (g, length x.changes) s.lent → changes_of g k.tree h ≡ x.changes
  pub names : (p : NamesPart) → Has (tt, p) v.names → s.lent_names ≡ length p.changes → name_changes k.tree h ≡ p.changes

-- The disk shows on its way what it showed. A block of a file that isn't in memory has the file's bytes then, or what it had.
pub record MayPass (S : Showing) (k : Start) (v : View) (s : StorePart) (lent : List (ℕ × ℕ)) (lent_names : ℕ) (c : Passage) : Type 0 where
  pub store : v.store ≡ (tt, s) ∷ []
  pub lends : IsLent v lent lent_names
  pub last : (c.state ≡ s.state) ⊎ Has c.state c.through
  pub others : IsDiskVisible k → (b : ℕ) → uses b v ≡ 0 → 1 ≤ uses b k.view → block_on c.state b ≡ block_on s.state b
  pub own : IsDiskVisible k → (g : ℕ) (x : FilePart) → Has (g, x) v.files → (place b : ℕ) → slice_get x.blocks place ≡ Some b → is_loaded x place ≡ false
      → (block_on c.state b ≡ block_in x.bytes place) ⊎ (block_on c.state b ≡ block_on s.state b)
  pub inside : IsDiskVisible k → (h : List Entry) → HadLent k v s h → S.Shows k.tree h (committed s) s.names s.paths s.state → (d : Cells) → Has d c.through → S.Shows k.tree h (committed s) s.names None d
  pub end : IsDiskVisible k → (h : List Entry) → HasHand k v h → S.Shows k.tree h (committed s) s.names s.paths s.state → S.Shows k.tree h (committed s) s.names s.paths c.state

-- ---- what is committed is told to the parts that are lent

abbrev pub IsFileTold : StorePart → ℕ → FilePart → FilePart → Type 0
IsFileTold s g x y = (y ≡ record x { known = y.known }) × ((y.known ≡ x.known) ⊎ (y.known ≡ committed s g))

abbrev pub told_files : ℕ → List (ℕ × FilePart) → View → View
told_files tickets files v = record v { files = files; seen = tickets }

pub record MayTell (v : View) (s : StorePart) (files : List (ℕ × FilePart)) : Type 0 where
  pub store : v.store ≡ (tt, s) ∷ []
  pub file_names : (g : ℕ) → count eqb g files ≡ count eqb g v.files
  pub uses_stay : (b : ℕ) → uses b (told_files 0 files v) ≡ uses b v
  pub told : (g : ℕ) (y : FilePart) → Has (g, y) files → (x : FilePart) × Has (g, x) v.files × IsFileTold s g x y

-- ---- a file is committed

-- The store after the last device call of a commit: all the file's changes, its blocks, and its quarantine unassigned.
abbrev pub file_committed : ℕ → ℕ → FilePart → List Cells → Cells → StorePart → StorePart
file_committed tickets g x through state s = record s {
  files = fin.insert s.files g (length x.changes);
  extents = fin.insert s.extents g x.blocks;
  unassigned = s.unassigned ++ x.quarantine;
  past = record { states = s.state ∷ through; from = s.mark; to = tickets } ∷ s.past;
  state = state;
  mark = tickets;
  lent = (g, length x.changes) ∷ [];
  lent_names = 0;
}

abbrev pub committed_part : FilePart → FilePart
committed_part x = record x { quarantine = []; known = length x.changes }

abbrev pub committing : ℕ → ℕ → FilePart → List Cells → Cells → StorePart → View → View
committing tickets g x through state s v = record v { files = (g, committed_part x) ∷ []; store = (tt, file_committed tickets g x through state s) ∷ []; seen = tickets }

-- The store's hand and the file's are joined. The disk shows on its way what it showed, and then all the file's changes.
pub record MayCommitFile (S : Showing) (k : Start) (tickets : ℕ) (v : View) (g : ℕ) (x : FilePart) (s : StorePart) (through : List Cells) (state : Cells) : Type 0 where
  pub file : v.files ≡ (g, x) ∷ []
  pub born : x.born ≡ true
  pub store : v.store ≡ (tt, s) ∷ []
  pub last : (state ≡ s.state) ⊎ Has state through
  pub others : IsDiskVisible k → (b : ℕ) → uses b v ≡ 0 → 1 ≤ uses b k.view → block_on state b ≡ block_on s.state b
  pub own : IsDiskVisible k → (place b : ℕ) → slice_get x.blocks place ≡ Some b → is_loaded x place ≡ false → block_on state b ≡ block_on s.state b
  pub inside : IsDiskVisible k → (h : List Entry) → ((g, length x.changes) ∷ [] ≡ s.lent → changes_of g k.tree h ≡ x.changes) → S.Shows k.tree h (committed s) s.names s.paths s.state
      → (d : Cells) → Has d through → S.Shows k.tree h (committed s) s.names None d
  pub end : IsDiskVisible k → (h : List Entry) → changes_of g k.tree h ≡ x.changes → S.Shows k.tree h (committed s) s.names s.paths s.state
      → S.Shows k.tree h (committed (file_committed tickets g x through state s)) s.names s.paths state

-- ---- the names are committed

abbrev pub blocks_dropped : List (ℕ × List ℕ) → List ℕ
blocks_dropped [] = []
blocks_dropped (d ∷ ds) = d.1 ++ blocks_dropped ds

-- What the store and the names have of a commit of names: the committed blocks of files that are left, those of
-- directories, and the files that are born.
pub record NamesCommit : Type 0 where
  pub extents : fin.FinMap nat_cmp (List ℕ)
  pub dirs : List ℕ
  pub born : List ℕ
  pub through : List Cells
  pub state : Cells

abbrev pub names_committed : ℕ → NamesPart → NamesCommit → StorePart → StorePart
names_committed tickets p c s = record s {
  names = length p.changes;
  paths = Some p.paths;
  extents = c.extents;
  dirs = c.dirs;
  past = record { states = s.state ∷ c.through; from = s.mark; to = tickets } ∷ s.past;
  state = c.state;
  mark = tickets;
  lent = [];
  lent_names = length p.changes;
}

abbrev pub committed_names : NamesPart → NamesCommit → NamesPart
committed_names p c = record p { born = c.born; dropped = []; spare = p.spare ++ blocks_dropped p.dropped; known = length p.changes }

abbrev pub naming : ℕ → NamesPart → NamesCommit → StorePart → View → View
naming tickets p c s v = record v { names = (tt, committed_names p c) ∷ []; store = (tt, names_committed tickets p c s) ∷ []; seen = tickets }

pub record MayCommitNames (S : Showing) (k : Start) (tickets : ℕ) (v : View) (p : NamesPart) (s : StorePart) (c : NamesCommit) : Type 0 where
  pub names : v.names ≡ (tt, p) ∷ []
  pub store : v.store ≡ (tt, s) ∷ []
  -- the committed blocks of dropped files are none any more, and no others come
  pub fewer : (g : ℕ) (bs : List ℕ) → fin.get c.extents g ≡ Some bs → fin.get s.extents g ≡ Some bs
  pub gone : (g : ℕ) (bs : List ℕ) → Has (g, bs) p.dropped → fin.get c.extents g ≡ None
  pub dirs : ((b : ℕ) → Has b s.dirs → Has b p.blocks) → (b : ℕ) → Has b c.dirs → Has b p.blocks
  pub born : (g : ℕ) → Has g c.born → Has g p.born ⊎ IsMadeBy p (length p.changes) g
  pub last : (c.state ≡ s.state) ⊎ Has c.state c.through
  pub others : IsDiskVisible k → (b : ℕ) → uses b v ≡ 0 → 1 ≤ uses b k.view → block_on c.state b ≡ block_on s.state b
  pub own : IsDiskVisible k → (g : ℕ) (x : FilePart) → Has (g, x) v.files → (place b : ℕ) → slice_get x.blocks place ≡ Some b → is_loaded x place ≡ false → block_on c.state b ≡ block_on s.state b
  pub inside : IsDiskVisible k → (h : List Entry) → (s.lent_names ≡ length p.changes → name_changes k.tree h ≡ p.changes) → S.Shows k.tree h (committed s) s.names s.paths s.state
      → (d : Cells) → Has d c.through → S.Shows k.tree h (committed s) s.names None d
  pub end : IsDiskVisible k → (h : List Entry) → name_changes k.tree h ≡ p.changes → S.Shows k.tree h (committed s) s.names s.paths s.state → S.Shows k.tree h (committed s) (length p.changes) (Some p.paths) c.state

-- ---- a commit or a checkpoint fails

-- The fault's number, and the states that the disk passed, to the one in which it was left.
pub record Failure : Type 0 where
  pub fault : ℕ
  pub through : List Cells
  pub state : Cells

-- Nothing more is committed, some image may have other paths than another, and the store has stopped.
abbrev pub failed : ℕ → Failure → StorePart → StorePart
failed tickets f s = record s {
  past = record { states = s.state ∷ f.through; from = s.mark; to = tickets } ∷ s.past;
  paths = None;
  state = f.state;
  mark = tickets;
  lent = [];
  lent_names = 0;
  faults = f.fault ∷ s.faults;
  stop = Some f.fault;
}

-- the hand may excuse one entry by the fault, and others by the stop
abbrev pub failing : ℕ → Failure → StorePart → View → View
failing tickets f s v = record v { store = (tt, failed tickets f s) ∷ []; seen = tickets; faults = f.fault ∷ v.faults; stop = Some f.fault }

-- The store hadn't stopped, the fault is new, and each state that the disk passed shows what was committed, or more.
pub record MayFail (S : Showing) (k : Start) (v : View) (s : StorePart) (f : Failure) : Type 0 where
  pub store : v.store ≡ (tt, s) ∷ []
  pub running : s.stop ≡ None
  pub new : times f.fault s.faults ≡ 0
  pub last : Has f.state f.through
  pub others : IsDiskVisible k → (b : ℕ) → uses b v ≡ 0 → 1 ≤ uses b k.view → block_on f.state b ≡ block_on s.state b
  pub own : IsDiskVisible k → (g : ℕ) (x : FilePart) → Has (g, x) v.files → (place b : ℕ) → slice_get x.blocks place ≡ Some b → is_loaded x place ≡ false → block_on f.state b ≡ block_on s.state b
  pub inside : IsDiskVisible k → (h : List Entry) → HadLent k v s h → S.Shows k.tree h (committed s) s.names s.paths s.state → (d : Cells) → Has d f.through → S.Shows k.tree h (committed s) s.names None d

-- ---- a checkpoint

-- The blocks of directories in the last commit, those that the names keep, and those that they have free: of directories
-- that were removed, on which the journal has no entries any more.
pub record Checkpoint : Type 0 where
  pub dirs : List ℕ
  pub blocks : List ℕ
  pub freed : List ℕ
  pub through : List Cells
  pub state : Cells

abbrev pub checkpointed : ℕ → NamesPart → Checkpoint → StorePart → StorePart
checkpointed tickets p c s = record s {
  dirs = c.dirs;
  past = record { states = s.state ∷ c.through; from = s.mark; to = tickets } ∷ s.past;
  state = c.state;
  mark = tickets;
  lent = [];
  lent_names = length p.changes;
}

abbrev pub freed_names : NamesPart → Checkpoint → NamesPart
freed_names p c = record p { blocks = c.blocks; spare = p.spare ++ c.freed }

abbrev pub checkpointing : ℕ → NamesPart → Checkpoint → StorePart → View → View
checkpointing tickets p c s v = record v { names = (tt, freed_names p c) ∷ []; store = (tt, checkpointed tickets p c s) ∷ []; seen = tickets }

-- The store's hand and the names' are joined. Nothing more is committed, and the disk shows what it showed.
pub record MayCheckpoint (S : Showing) (k : Start) (v : View) (p : NamesPart) (s : StorePart) (c : Checkpoint) : Type 0 where
  pub names : v.names ≡ (tt, p) ∷ []
  pub store : v.store ≡ (tt, s) ∷ []
  -- no block comes or goes, and none of a directory in the last commit is free
  pub blocks : (b : ℕ) → times b c.blocks + times b c.freed ≡ times b p.blocks
  pub fewer : (b : ℕ) → Has b c.dirs → Has b s.dirs
  pub apart : (b : ℕ) → Has b c.dirs → Has b c.freed → ⊥
  pub last : (c.state ≡ s.state) ⊎ Has c.state c.through
  pub others : IsDiskVisible k → (b : ℕ) → uses b v ≡ 0 → 1 ≤ uses b k.view → block_on c.state b ≡ block_on s.state b
  pub own : IsDiskVisible k → (g : ℕ) (x : FilePart) → Has (g, x) v.files → (place b : ℕ) → slice_get x.blocks place ≡ Some b → is_loaded x place ≡ false → block_on c.state b ≡ block_on s.state b
  pub inside : IsDiskVisible k → (h : List Entry) → HadLent k v s h → S.Shows k.tree h (committed s) s.names s.paths s.state → (d : Cells) → Has d c.through → S.Shows k.tree h (committed s) s.names None d
  pub end : IsDiskVisible k → (h : List Entry) → name_changes k.tree h ≡ p.changes → S.Shows k.tree h (committed s) s.names s.paths s.state → S.Shows k.tree h (committed s) s.names s.paths c.state

-- ---- reads that failed, and blocks that weren't there

abbrev pub answered : List ℕ → List Shortage → StorePart → StorePart
answered faults shortages s = record s { faults = faults ++ s.faults; shortages = shortages ++ s.shortages }

abbrev pub answering : ℕ → List ℕ → List Shortage → StorePart → View → View
answering tickets faults shortages s v = record v { store = (tt, answered faults shortages s) ∷ []; seen = tickets; faults = faults ++ v.faults; shortages = shortages ++ v.shortages }

-- each fault is new, and stands once
pub record MayAnswer (v : View) (s : StorePart) (faults : List ℕ) : Type 0 where
  pub store : v.store ≡ (tt, s) ∷ []
  pub new : (n : ℕ) → times n (faults ++ s.faults) ≤ 1
