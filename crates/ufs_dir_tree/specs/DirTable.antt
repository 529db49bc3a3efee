-- The directories of a tree, each by its inode, and what a walk through them meets.
use Rattle.std.specs.Prelude.{ℕ, ◌≡◌, ◌≢◌, ◌<◌, ◌≤◌, ◌==◌, List, [], ◌∷◌, length, true, false, Option, Some, None, IsSome, slice_index_or, if◌then◌else◌, refl}
use Rattle.std.specs.Option.{option_map}
use Rattle.std.specs.Ordering.{nat_cmp}
use Rattle.std.specs.FinSet as set
use Rattle.std.specs.Coded.{Coded, code_by, coded×, coded_ℕ, coded_list}
use Rattle.ufs_layout.specs.DentryForm.{DentryForm}
use Rattle.ufs_dirs.specs.Directory.{Directory, IsDirectory, entry_of, has_block}
use Rattle.ufs_path.specs.Names.{IsName}
use Rattle.ufs_dir_tree.specs.Space.{extents_of}
use Rattle.ufs_dir_tree.specs.declared.found.Found.{Found}
use Rattle.ufs_dir_tree.specs.declared.found.Found.TheVariants.{Dir, File}

-- inodes by number
abbrev pub InodeSet : Type 0
InodeSet = set.FinSet nat_cmp

-- The directories by inode, from 0: one without blocks where the inode is no directory's. And the free inodes.
pub record DirTable : Type 0 where
  pub dirs : List Directory
  pub free : InodeSet

abbrev pub no_dir : Directory
no_dir = record { blocks = []; slots = [] }

abbrev pub dir_at : DirTable → ℕ → Directory
dir_at t i = slice_index_or t.dirs i no_dir

-- what stands in the slots of a directory
abbrev pub slots_at : DirTable → ℕ → List DentryForm
slots_at t i = (dir_at t i).slots

abbrev pub blocks_at : DirTable → ℕ → List ℕ
blocks_at t i = (dir_at t i).blocks

-- ---- a walk

abbrev pub inode_of : Found → ℕ
inode_of (Dir i) = i
inode_of (File i) = i

-- what an entry names
abbrev pub found_of : DentryForm → Found
found_of e = if e.kind == 2 then Dir e.inode else File e.inode

-- one step of a walk
abbrev pub step : DirTable → Option Found → List ℕ → Option Found
step t None name = None
step t (Some (Dir i)) name = option_map found_of (entry_of (slots_at t i) name)
step t (Some (File i)) name = None

abbrev pub walk_from : DirTable → Option Found → List (List ℕ) → Option Found
walk_from t at [] = at
walk_from t at (name ∷ names) = walk_from t (step t at name) names

-- what a walk from the root, which is inode 1, meets along these names
abbrev pub found_at : DirTable → List (List ℕ) → Option Found
found_at t names = walk_from t (Some (Dir 1)) names

-- ---- which tables there are

-- The table has the inode, and it isn't free.
pub record IsUsed (t : DirTable) (i : ℕ) : Type 0 where
  pub from_one : 1 ≤ i
  pub within : i < length t.dirs
  pub used : set.contains t.free i ≡ false

-- A free inode has no block.
pub record IsFree (t : DirTable) (i : ℕ) : Type 0 where
  pub from_one : 1 ≤ i
  pub within : i < length t.dirs
  pub bare : dir_at t i ≡ no_dir

-- a walk from the root meets the directory
abbrev pub IsMet : DirTable → ℕ → Type 0
IsMet t i = (names : List (List ℕ)) × (found_at t names ≡ Some (Dir i))

-- a directory in which a name stands is met
abbrev pub IsReached : DirTable → Type 0
IsReached t = (i : ℕ) (name : List ℕ) → IsSome (entry_of (slots_at t i) name) → IsMet t i

-- what is true of every table
pub record IsDirTable (t : DirTable) : Type 0 where
  pub root : 1 < length t.dirs
  pub met : (names : List (List ℕ)) (f : Found) → found_at t names ≡ Some f → IsUsed t (inode_of f)
  -- one walk alone leads to an inode
  pub once : (names others : List (List ℕ)) (f g : Found) → found_at t names ≡ Some f → found_at t others ≡ Some g → inode_of f ≡ inode_of g → names ≡ others
  pub free : (i : ℕ) → set.contains t.free i ≡ true → IsFree t i
  -- each name may stand in a path
  pub names : (i : ℕ) (name : List ℕ) → IsSome (entry_of (slots_at t i) name) → IsName name
  -- a block is in one directory alone
  pub apart : (i j b : ℕ) → i ≢ j → has_block (blocks_at t i) b ≡ true → has_block (blocks_at t j) b ≡ false
  pub extents : (i : ℕ) → length (extents_of (blocks_at t i)) ≤ 56
  -- each directory is one: its slots fill its blocks, and no name stands in two of them
  pub whole : (i : ℕ) → IsDirectory (dir_at t i)
  pub reached : IsReached t

-- ---- stored as the pair of its parts

abbrev pub dentry_code : Coded DentryForm
dentry_code = code_by (ℕ × (ℕ × List ℕ)) (coded× coded_ℕ (coded× coded_ℕ (coded_list coded_ℕ)))
    (λ e. (e.inode, (e.kind, e.name))) (λ p. record { inode = p.0; kind = p.1.0; name = p.1.1 }) (λ _. refl)

abbrev pub directory_code : Coded Directory
directory_code = code_by (List ℕ × List DentryForm) (coded× (coded_list coded_ℕ) (coded_list dentry_code))
    (λ d. (d.blocks, d.slots)) (λ p. record { blocks = p.0; slots = p.1 }) (λ _. refl)

abbrev pub table_code : Coded DirTable
table_code = code_by (List Directory × InodeSet) (coded× (coded_list directory_code) (set.code coded_ℕ))
    (λ t. (t.dirs, t.free)) (λ p. record { dirs = p.0; free = p.1 }) (λ _. refl)
