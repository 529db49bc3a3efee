-- A change of a tree's directories, step by step: when each step may be made, and what it makes of them.
use Rattle.std.specs.Prelude.{ℕ, ◌≡◌, ◌≤◌, ◌==◌, ◌⊎◌, List, [], ◌∷◌, ◌++◌, length, replicate, slice_set, Bool, true, false, IsTrue, ⊤, Option, Some, None, if◌then◌else◌}
use Rattle.std.specs.FinSet as set
use Rattle.ufs_base.specs.declared.sizes.TheConstants.{SLOTS_PER_BLOCK}
use Rattle.ufs_layout.specs.DentryForm.{DentryForm, free_slot, is_dentry, is_named}
use Rattle.ufs_bitmap.specs.Blocks.{BlockSet}
use Rattle.ufs_path.specs.Names.{IsName}
use Rattle.ufs_dirs.specs.Directory.{Directory, entry_of}
use Rattle.ufs_dirs.specs.Changes.{IsSlot, entry_in, with_entry}
use Rattle.ufs_dirs.specs.declared.Slot.{Slot}
use Rattle.ufs_dir_tree.specs.Space.{extents_of}
use Rattle.ufs_dir_tree.specs.DirTable.{DirTable, IsFree, IsMet, IsUsed, no_dir, dir_at, blocks_at}
use Rattle.ufs_dir_tree.specs.DirCalls.{IsUnmet}
use Rattle.ufs_dir_tree.specs.declared.found.Found.{Found}
use Rattle.ufs_dir_tree.specs.declared.found.Found.TheVariants.{Dir}

-- The directories, what each inode is (0 free, 1 a file, 2 a directory), and the blocks in which a directory may spell
-- dentries next: they are zero, and no inode has them.
pub record DirState : Type 0 where
  pub table : DirTable
  pub kinds : ℕ → ℕ
  pub zeroed : ℕ → Bool

pub data Step : Type 0 where
  -- A free inode becomes a file without a byte or a directory without a block.
  Born : (inode kind : ℕ) → Step
  -- A directory takes a block behind its others. Its slots are free.
  Grown : (dir block : ℕ) → Step
  -- A slot of a directory gets this dentry, or is cleared by a free one.
  Put : (dir : ℕ) (slot : Slot) (dentry : DentryForm) → Step
  -- An inode is freed, and has no block any more.
  Freed : (inode : ℕ) → Step

-- ---- what a step makes of the directories

abbrev pub with_dir : ℕ → Directory → DirTable → DirTable
with_dir i d t = record { dirs = slice_set t.dirs i d; free = t.free }

abbrev pub with_kind : ℕ → ℕ → (ℕ → ℕ) → ℕ → ℕ
with_kind i kind kinds k = if k == i then kind else kinds k

abbrev pub without_block : ℕ → (ℕ → Bool) → ℕ → Bool
without_block block blocks k = if k == block then false else blocks k

-- with a block of free slots behind the others
abbrev pub grown : ℕ → Directory → Directory
grown block d = record { blocks = d.blocks ++ block ∷ []; slots = d.slots ++ replicate SLOTS_PER_BLOCK free_slot }

abbrev pub table_after : Step → DirTable → DirTable
table_after (Born i kind) t = record { dirs = t.dirs; free = set.remove t.free i }
table_after (Grown i block) t = with_dir i (grown block (dir_at t i)) t
table_after (Put i slot d) t = with_dir i (with_entry (dir_at t i) slot d) t
table_after (Freed i) t = record { dirs = slice_set t.dirs i no_dir; free = set.insert t.free i }

abbrev pub after : Step → DirState → DirState
after (Born i kind) s = record { table = table_after (Born i kind) s.table; kinds = with_kind i kind s.kinds; zeroed = s.zeroed }
after (Grown i block) s = record { table = table_after (Grown i block) s.table; kinds = s.kinds; zeroed = without_block block s.zeroed }
after (Put i slot d) s = record { table = table_after (Put i slot d) s.table; kinds = s.kinds; zeroed = s.zeroed }
after (Freed i) s = record { table = table_after (Freed i) s.table; kinds = with_kind i 0 s.kinds; zeroed = s.zeroed }

abbrev pub after_all : List Step → DirState → DirState
after_all [] s = s
after_all (x ∷ xs) s = after_all xs (after x s)

-- the same of the table alone
abbrev pub table_after_all : List Step → DirTable → DirTable
table_after_all [] t = t
table_after_all (x ∷ xs) t = table_after_all xs (table_after x t)

-- ---- what it makes of the pool

-- A directory takes its block from the pool, and what an inode had as a directory is the pool's once it is freed.
abbrev pub pool_after : Step → DirTable → BlockSet → BlockSet
pool_after (Born i kind) t pool = pool
pool_after (Grown i block) t pool = set.remove pool block
pool_after (Put i slot d) t pool = pool
pool_after (Freed i) t pool = set.union pool (set.from_list (blocks_at t i))

abbrev pub pool_after_all : List Step → DirTable → BlockSet → BlockSet
pool_after_all [] t pool = pool
pool_after_all (x ∷ xs) t pool = pool_after_all xs (table_after x t) (pool_after x t pool)

-- ---- which steps may be made

-- The inode is free, and becomes a file or a directory.
pub record MayBear (t : DirTable) (inode kind : ℕ) : Type 0 where
  pub held : set.contains t.free inode ≡ true
  pub free : IsFree t inode
  pub known : (kind ≡ 1) ⊎ (kind ≡ 2)

-- The directory is met, and takes a block of the pool. With it it lies in at most 56 extents.
pub record MayTake (t : DirTable) (pool : BlockSet) (dir block : ℕ) : Type 0 where
  pub met : IsMet t dir
  pub pooled : set.contains pool block ≡ true
  pub extents : length (extents_of (blocks_at t dir ++ block ∷ [])) ≤ 56

-- A name comes into a free slot. It may stand in a path, and isn't in the directory.
pub record IsNewName (d : Directory) (slot : Slot) (name : List ℕ) : Type 0 where
  pub free : is_named (entry_in d slot) ≡ false
  pub plain : IsName name
  pub absent : entry_of d.slots name ≡ None

-- The directory is met, the slot is one of its own, and the dentry is on its form.
pub record MaySet (t : DirTable) (dir : ℕ) (slot : Slot) (d : DentryForm) : Type 0 where
  pub met : IsMet t dir
  pub in_dir : IsSlot (dir_at t dir) slot
  pub form : IsTrue (is_dentry d)
  pub new : is_named d ≡ true → IsNewName (dir_at t dir) slot d.name

-- The inode is used, and no walk leads to it; so it isn't the root.
pub record MayLose (t : DirTable) (inode : ℕ) : Type 0 where
  pub used : IsUsed t inode
  pub unmet : IsUnmet t inode

abbrev pub MayMake : DirTable → BlockSet → Step → Type 0
MayMake t pool (Born i kind) = MayBear t i kind
MayMake t pool (Grown i block) = MayTake t pool i block
MayMake t pool (Put i slot d) = MaySet t i slot d
MayMake t pool (Freed i) = MayLose t i

-- each after those before it
abbrev pub MayMakeAll : DirTable → BlockSet → List Step → Type 0
MayMakeAll t pool [] = ⊤
MayMakeAll t pool (x ∷ xs) = MayMake t pool x × MayMakeAll (table_after x t) (pool_after x t pool) xs

-- The steps may be made one after another, and lead from the one table and pool to the other.
pub record GoesBy (old new : DirTable) (before after : BlockSet) (xs : List Step) : Type 0 where
  pub may : MayMakeAll old before xs
  pub table : new ≡ table_after_all xs old
  pub pool : after ≡ pool_after_all xs old before

-- ---- which steps calls make

-- an inode is born, and gets a name in a directory
abbrev pub adding : (dir : ℕ) (slot : Slot) (d : DentryForm) → List Step
adding dir slot d = Born d.inode d.kind ∷ Put dir slot d ∷ []

-- a name goes, and its inode with it
abbrev pub dropping : (dir : ℕ) (slot : Slot) (inode : ℕ) → List Step
dropping dir slot inode = Put dir slot free_slot ∷ Freed inode ∷ []

-- a name goes, and its inode gets another one
abbrev pub moving : (from : ℕ) (old : Slot) (to : ℕ) (new : Slot) (d : DentryForm) → List Step
moving from old to new d = Put from old free_slot ∷ Put to new d ∷ []

-- a directory takes a block, where there is one that it takes
abbrev pub growing : (dir : ℕ) → Option ℕ → List Step
growing dir None = []
growing dir (Some block) = Grown dir block ∷ []

-- A name goes. A directory that it stood for is freed; a file isn't.
abbrev pub clearing : (dir : ℕ) → Slot → Option Found → List Step
clearing dir slot (Some (Dir i)) = dropping dir slot i
clearing dir slot _ = Put dir slot free_slot ∷ []

-- the same of a name that gives place to another, where there is one
abbrev pub replacing : (dir : ℕ) → Option Slot → Option Found → List Step
replacing dir None at = []
replacing dir (Some slot) at = clearing dir slot at
