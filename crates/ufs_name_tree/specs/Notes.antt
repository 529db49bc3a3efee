-- What the notes of a tree's names say of a change of them.
use Rattle.std.specs.Prelude.{ℕ, ◌≡◌, ◌≢◌, ◌*◌, ◌≤◌, ◌<◌, ◌⊎◌, ◌==◌, ⊤, List, [], ◌∷◌, ◌++◌, length, Bool, true, false, IsTrue, Some, None}
use Rattle.std.specs.List.{list_any, slice_get}
use Rattle.std.specs.FinSet as set
use Rattle.ufs_base.specs.declared.lack.Lack.{Lack}
use Rattle.ufs_base.specs.declared.sizes.TheConstants.{SLOTS_PER_BLOCK}
use Rattle.ufs_layout.specs.DentryForm.{DentryForm, is_dentry, is_named}
use Rattle.ufs_layout.specs.declared.records.LogRecord.{LogRecord}
use Rattle.ufs_bitmap.specs.Blocks.{BlockSet}
use Rattle.ufs_dirs.specs.Changes.{IsSlot}
use Rattle.ufs_dirs.specs.declared.Slot.{Slot}
use Rattle.ufs_dir_tree.specs.DirTable.{DirTable, IsUsed, dir_at, slots_at, blocks_at, found_at}
use Rattle.ufs_dir_tree.specs.Space.{extents_of}
use Rattle.ufs_dir_tree.specs.Steps.{DirState, Step, Born, Grown, Put, Freed, MayBear, after, after_all, table_after_all}
use Rattle.ufs_dir_tree.specs.declared.found.Found.TheVariants.{Dir}
use Rattle.ufs_ilog.specs.Notes.{IsLackFor, IsNotedOn}
use Rattle.ufs_name_tree.specs.NameTable.{NameTable, file_at}
use Rattle.ufs_name_tree.specs.Records.{records_of}

-- ---- the state of a disk

-- A directory that is met has kind 2, a file's inode kind 1, and a free one kind 0.
pub record AreKindsOf (n : NameTable) (kinds : ℕ → ℕ) : Type 0 where
  pub dir : (i : ℕ) (names : List (List ℕ)) → found_at n.dirs names ≡ Some (Dir i) → kinds i ≡ 2
  pub file : (i f : ℕ) → file_at n i ≡ Some f → kinds i ≡ 1
  pub free : (i : ℕ) → set.contains n.dirs.free i ≡ true → kinds i ≡ 0

-- The state has the directories and inodes of the names, and a directory may take each block of the pool.
pub record IsStateOf (n : NameTable) (pool : BlockSet) (s : DirState) : Type 0 where
  pub table : s.table ≡ n.dirs
  pub kinds : AreKindsOf n s.kinds
  pub zeroed : (b : ℕ) → set.contains pool b ≡ true → s.zeroed b ≡ true

-- ---- which steps may be noted

-- The directory takes a block that it may take. With it it lies in at most 56 extents.
pub record MayNoteGrown (s : DirState) (dir block : ℕ) : Type 0 where
  pub used : IsUsed s.table dir
  pub is_dir : s.kinds dir ≡ 2
  pub zeroed : s.zeroed block ≡ true
  pub extents : length (extents_of (blocks_at s.table dir ++ block ∷ [])) ≤ 56

-- The slot is one of the directory's, and the dentry is on its form.
pub record MayNotePut (t : DirTable) (dir : ℕ) (slot : Slot) (d : DentryForm) : Type 0 where
  pub used : IsUsed t dir
  -- 64 slots a block
  pub sized : length (slots_at t dir) ≡ SLOTS_PER_BLOCK * length (blocks_at t dir)
  pub in_dir : IsSlot (dir_at t dir) slot
  pub form : IsTrue (is_dentry d)
  -- an inode of the table, or 0
  pub inode : d.inode < length t.dirs

-- The inode is used, and isn't the root.
pub record MayNoteFreed (t : DirTable) (inode : ℕ) : Type 0 where
  pub used : IsUsed t inode
  pub no_root : inode ≢ 1

-- It asks nothing of names, so that the slots that a call sets may be noted in the order of their sectors.
abbrev pub MayNote : DirState → Step → Type 0
MayNote s (Born i kind) = MayBear s.table i kind
MayNote s (Grown i block) = MayNoteGrown s i block
MayNote s (Put i slot d) = MayNotePut s.table i slot d
MayNote s (Freed i) = MayNoteFreed s.table i

-- each after those before it
abbrev pub MayNoteAll : DirState → List Step → Type 0
MayNoteAll s [] = ⊤
MayNoteAll s (x ∷ xs) = MayNote s x × MayNoteAll (after x s) xs

-- ---- which inodes steps touch

-- the step gives this inode another form
abbrev pub is_of : ℕ → Step → Bool
is_of inode (Born i kind) = i == inode
is_of inode (Grown i block) = i == inode
is_of inode (Put i slot d) = false
is_of inode (Freed i) = i == inode

-- one of them does
abbrev pub is_touched : List Step → ℕ → Bool
is_touched xs inode = list_any (is_of inode) xs

-- ---- what names stand for

-- a file, or a directory
abbrev pub IsOfKind : DentryForm → Type 0
IsOfKind d = (d.kind ≡ 1) ⊎ (d.kind ≡ 2)

-- so each name does
abbrev pub HasKinds : DirTable → Type 0
HasKinds t = (i place : ℕ) (d : DentryForm) → slice_get (slots_at t i) place ≡ Some d → is_named d ≡ true → IsOfKind d

-- ---- a change

-- Nothing is noted any more. Where something was, it is lost at these records for want of what is kept: memory was refused, or
-- no number counts the sectors of all records. Where nothing was, nothing is lost.
pub record IsLostAt (old new : NameTable) (records : List LogRecord) : Type 0 where
  pub none : new.noted ≡ None
  pub cause : (before : List LogRecord) → old.noted ≡ Some before → (w : Lack) × (new.lost ≡ Some w) × IsLackFor before records w
  pub unlost : old.noted ≡ None → new.lost ≡ old.lost

-- Steps lead from the old names to the new ones, and the notes are lost at their records.
pub record LosesNotes (old new : NameTable) : Type 0 where
  pub steps : List Step
  pub dirs : new.dirs ≡ table_after_all steps old.dirs
  pub lost : IsLostAt old new (records_of old.dirs steps)

-- Steps lead from the old names to the new ones, with blocks of this pool, and their records stand behind what was noted.
pub record GoesNoted (old new : NameTable) (pool : BlockSet) : Type 0 where
  pub steps : List Step
  pub noted : IsNotedOn old.noted new.noted (records_of old.dirs steps)
  pub lost : new.lost ≡ old.lost
  pub dirs : new.dirs ≡ table_after_all steps old.dirs
  pub may : (s : DirState) → IsStateOf old pool s → MayNoteAll s steps
  pub kinds : (s : DirState) → IsStateOf old pool s → AreKindsOf new (after_all steps s).kinds
  -- they don't touch the inode of a file that keeps it
  pub kept : (i f : ℕ) → file_at old i ≡ Some f → file_at new i ≡ Some f → is_touched steps i ≡ false
  -- they touch the inode of a file that had none
  pub given : (i f : ℕ) → ((j : ℕ) → file_at old j ≢ Some f) → file_at new i ≡ Some f → is_touched steps i ≡ true
  -- and that of a file that has it no more
  pub gone : (i f : ℕ) → file_at old i ≡ Some f → file_at new i ≢ Some f → is_touched steps i ≡ true
  -- and no file has another inode than it had
  pub stayed : (i j f : ℕ) → file_at old j ≡ Some f → file_at new i ≡ Some f → i ≡ j
  -- each name stands for a file or a directory still
  pub named : HasKinds old.dirs → HasKinds new.dirs

-- The notes tell the change, or there are none: they were lost for a lack alone.
abbrev pub GoesByNotes : NameTable → NameTable → BlockSet → Type 0
GoesByNotes old new pool = LosesNotes old new ⊎ GoesNoted old new pool
