-- One change of a tree's directories.
use Rattle.std.specs.Prelude.{ℕ, ◌≡◌, ◌≢◌, ◌*◌, ◌<◌, List, [], ◌∷◌, ◌++◌, length, Option, Some, None, slice_index_or, ⊤, false, true}
use Rattle.std.specs.FinSet as set
use Rattle.ufs_base.specs.declared.sizes.TheConstants.{SLOTS_PER_BLOCK}
use Rattle.ufs_layout.specs.DentryForm.{DentryForm}
use Rattle.ufs_dirs.specs.Directory.{Directory, entry_of, has_block}
use Rattle.ufs_dirs.specs.Changes.{SetsName}
use Rattle.ufs_dirs.specs.declared.Slot.{Slot}
use Rattle.ufs_bitmap.specs.Blocks.{BlockSet}
use Rattle.ufs_model.specs.declared.data.Excuse.{Excuse}
use Rattle.ufs_model.specs.declared.data.Excuse.TheVariants as excuse
use Rattle.ufs_dir_tree.specs.Space.{extents_of}
use Rattle.ufs_dir_tree.specs.DirTable.{DirTable, IsDirTable, IsUsed, no_dir, slots_at, inode_of, walk_from, found_at}
use Rattle.ufs_dir_tree.specs.DirCalls.{HasRoom, StandsAt}
use Rattle.ufs_dir_tree.specs.declared.found.Found.{Found}

-- the directory of this inode
abbrev pub dir_in : List Directory → ℕ → Directory
dir_in dirs i = slice_index_or dirs i no_dir

-- none of the blocks is in the pool
abbrev pub HasNone : BlockSet → List ℕ → Type 0
HasNone pool blocks = (b : ℕ) → has_block blocks b ≡ true → set.contains pool b ≡ false

-- Its blocks have so many slots.
abbrev pub IsSized : Directory → Type 0
IsSized d = length d.slots ≡ SLOTS_PER_BLOCK * length d.blocks

-- Each name stands for what it did.
abbrev pub SameNames : Directory → Directory → Type 0
SameNames old new = (name : List ℕ) → entry_of new.slots name ≡ entry_of old.slots name

-- In each directory each name stands for what it did.
abbrev pub SameEntries : List Directory → List Directory → Type 0
SameEntries old new = (i : ℕ) → SameNames (dir_in old i) (dir_in new i)

-- Nothing but one directory changed.
pub record ChangesOne (old new : List Directory) (dir : ℕ) : Type 0 where
  pub counted : length new ≡ length old
  pub others : (i : ℕ) → i ≢ dir → dir_in new i ≡ dir_in old i

-- Nothing but the blocks and the slots of one directory changed, and each of its names stands for what it did.
pub record RoomsIn (old new : List Directory) (dir : ℕ) : Type 0 where
  pub one : ChangesOne old new dir
  pub names : SameNames (dir_in old dir) (dir_in new dir)

-- Nothing but what one name of one directory stands for changed.
pub record SetsEntry (old new : List Directory) (dir : ℕ) (name : List ℕ) (w : Option DentryForm) : Type 0 where
  pub one : ChangesOne old new dir
  pub names : SetsName (dir_in old dir) (dir_in new dir) name w
  pub blocks : (dir_in new dir).blocks ≡ (dir_in old dir).blocks

-- Each name that stands in a slot now stood there before.
abbrev pub KeepsPlaces : List Directory → List Directory → Type 0
KeepsPlaces old new = (i : ℕ) (name : List ℕ) (slot : Slot) → StandsAt (dir_in new i) name slot → StandsAt (dir_in old i) name slot

-- ---- what is met

-- Nothing leads here: each inode that a walk from here meets is in use, is met by that walk alone, and by none from
-- the root.
pub record IsLoose (t : DirTable) (from : Found) : Type 0 where
  pub met : (names : List (List ℕ)) (f : Found) → walk_from t (Some from) names ≡ Some f → IsUsed t (inode_of f)
  pub once : (names others : List (List ℕ)) (f g : Found) → walk_from t (Some from) names ≡ Some f → walk_from t (Some from) others ≡ Some g → inode_of f ≡ inode_of g → names ≡ others
  pub unmet : (names others : List (List ℕ)) (f g : Found) → walk_from t (Some from) names ≡ Some f → found_at t others ≡ Some g → inode_of f ≢ inode_of g

-- nothing stands below
abbrev pub NothingFrom : DirTable → Option Found → Type 0
NothingFrom t at = (y : List ℕ) (ys : List (List ℕ)) → walk_from t at (y ∷ ys) ≡ None

-- The name stands for nothing now, and its directory has a free slot. Each other name stands for what it did.
pub record ClearsName (old new : DirTable) (dir : ℕ) (name : List ℕ) : Type 0 where
  pub this : entry_of (slots_at new dir) name ≡ None
  pub others : (i : ℕ) (other : List ℕ) → (i ≡ dir → other ≢ name) → entry_of (slots_at new i) other ≡ entry_of (slots_at old i) other
  pub room : HasRoom (dir_in new.dirs dir)
  pub before : IsDirTable old
  pub table : IsDirTable new

-- ---- refusals

-- why a block isn't added behind these
abbrev pub IsAddCause : List ℕ → ℕ → Excuse → Type 0
IsAddCause blocks block excuse.Memory = ⊤
IsAddCause blocks block (excuse.Extents need) = (need ≡ length (extents_of (blocks ++ block ∷ []))) × (56 < need)
IsAddCause blocks block _ = ⊥
