-- What the calls on a tree's directories answer, and what they change.
use Rattle.std.specs.Prelude.{ℕ, ◌≡◌, ◌≢◌, ◌-◌, ◌%◌, ◌<◌, List, [], ◌∷◌, ◌++◌, Option, Some, None, IsSome, ⊤, length, take, slice_index_or, true, false}
use Rattle.std.specs.List.{list_all}
use Rattle.std.specs.FinSet as set
use Rattle.ufs_layout.specs.DentryForm.{DentryForm, is_named}
use Rattle.ufs_base.specs.declared.sizes.TheConstants.{SLOTS_PER_BLOCK}
use Rattle.ufs_dirs.specs.Directory.{Directory, entry_of, has_block}
use Rattle.ufs_dirs.specs.Changes.{IsSlotOf, entry_in}
use Rattle.ufs_dirs.specs.Names.{AreNamesIn}
use Rattle.ufs_dirs.specs.declared.Slot.{Slot}
use Rattle.ufs_bitmap.specs.Blocks.{BlockSet}
use Rattle.ufs_base.specs.Choices.{first_of}
use Rattle.ufs_model.specs.declared.data.Errno.{Errno}
use Rattle.ufs_model.specs.declared.data.Errno.TheVariants.{Enoent, Enotdir}
use Rattle.ufs_model.specs.declared.data.Excuse.{Excuse}
use Rattle.ufs_model.specs.declared.data.Excuse.TheVariants as excuse
use Rattle.ufs_dir_tree.specs.Space.{extents_of, IsLowest}
use Rattle.ufs_dir_tree.specs.DirTable.{DirTable, dir_at, slots_at, blocks_at, inode_of, found_at}
use Rattle.ufs_dir_tree.specs.declared.found.Found.{Found}
use Rattle.ufs_dir_tree.specs.declared.found.Found.TheVariants.{Dir, File}
use Rattle.ufs_dir_tree.specs.declared.found.Kind.{Kind}
use Rattle.ufs_dir_tree.specs.declared.found.Kind.TheVariants as kind

-- what stands at each list of names
abbrev pub Founds : Type 0
Founds = List (List ℕ) → Option Found

-- the names but the last
abbrev pub names_above : List (List ℕ) → List (List ℕ)
names_above names = take (length names - 1) names

-- the last one
abbrev pub last_name : List (List ℕ) → List ℕ
last_name names = slice_index_or names (length names - 1) []

-- ---- answers

-- what is there has to be a directory
abbrev pub dir_refusal : Option Found → Option Errno
dir_refusal None = Some Enoent
dir_refusal (Some (Dir i)) = None
dir_refusal (Some (File i)) = Some Enotdir

-- Below the names above, each name but the last has to be a directory that is there.
abbrev pub refusal_by : Founds → List (List ℕ) → List (List ℕ) → Option Errno
refusal_by at above [] = None
refusal_by at above (name ∷ []) = None
refusal_by at above (name ∷ next ∷ names) = first_of (dir_refusal (at (above ++ name ∷ []))) (refusal_by at (above ++ name ∷ []) (next ∷ names))

-- no name is in the directory's slots
abbrev pub IsBare : List DentryForm → Type 0
IsBare slots = (name : List ℕ) → entry_of slots name ≡ None

-- what may go: a file, or a directory without a name
abbrev pub MayGo : DirTable → List (List ℕ) → Type 0
MayGo t names = (i : ℕ) → found_at t names ≡ Some (Dir i) → IsBare (slots_at t i)

-- no walk leads to the inode
abbrev pub IsUnmet : DirTable → ℕ → Type 0
IsUnmet t i = (names : List (List ℕ)) (f : Found) → found_at t names ≡ Some f → inode_of f ≢ i

-- ---- changes

-- what an inode of this kind is
abbrev pub found_as : Kind → ℕ → Found
found_as kind.File i = File i
found_as kind.Dir i = Dir i

-- as a dentry has it
abbrev pub code_of : Kind → ℕ
code_of kind.File = 1
code_of kind.Dir = 2

-- At these names stands this now, and elsewhere what stood there.
pub record SetsFound (old new : Founds) (names : List (List ℕ)) (w : Option Found) : Type 0 where
  pub this : new names ≡ w
  pub others : (other : List (List ℕ)) → other ≢ names → new other ≡ old other

-- What stood at or below the names `from` stands at or below the names `to`; nothing stands there any more; and
-- elsewhere what stood there.
pub record MovesFounds (old new : Founds) (from to : List (List ℕ)) : Type 0 where
  pub moved : (rest : List (List ℕ)) → new (to ++ rest) ≡ old (from ++ rest)
  pub gone : (rest : List (List ℕ)) → new (from ++ rest) ≡ None
  pub others : (other : List (List ℕ)) → ((rest : List (List ℕ)) → other ≢ from ++ rest) → ((rest : List (List ℕ)) → other ≢ to ++ rest) → new other ≡ old other

-- when what stands at one name may get another
pub record MayMove (t : DirTable) (from to : List (List ℕ)) : Type 0 where
  pub stands : IsSome (found_at t from)
  pub from_below : from ≢ []
  pub to_below : to ≢ []
  -- the new name isn't at or below the old one, and what stands there may go
  pub outside : (rest : List (List ℕ)) → to ≢ from ++ rest
  pub replaced : MayGo t to

-- The name stands in this slot, and for what is in it.
pub record StandsAt (d : Directory) (name : List ℕ) (slot : Slot) : Type 0 where
  pub place : IsSlotOf d name slot
  pub entry : entry_of d.slots name ≡ Some (entry_in d slot)

-- ---- space

-- no block of a directory is in the pool
abbrev pub IsApart : DirTable → BlockSet → Type 0
IsApart t pool = (i b : ℕ) → has_block (blocks_at t i) b ≡ true → set.contains pool b ≡ false

-- each slot is used
abbrev pub IsFull : Directory → Type 0
IsFull d = list_all is_named d.slots ≡ true

-- The directory has a list of its names. Where each slot is used they fill whole blocks.
pub record IsListed (d : Directory) : Type 0 where
  pub names : List (List ℕ)
  pub listed : AreNamesIn d.slots names
  pub whole : IsFull d → length names % SLOTS_PER_BLOCK ≡ 0

-- some slot is free
abbrev pub HasRoom : Directory → Type 0
HasRoom d = list_all is_named d.slots ≡ false

-- the pool's lowest block went behind the directory's others
pub record TakesBlock (old new : List ℕ) (before after : BlockSet) : Type 0 where
  pub block : ℕ
  pub lowest : IsLowest before block
  pub pool : after ≡ set.remove before block
  pub behind : new ≡ old ++ block ∷ []

-- Where each slot was used the directory took a block; else it has those that it had.
pub record GetsRoom (old new : Directory) (before after : BlockSet) : Type 0 where
  pub taken : IsFull old → TakesBlock old.blocks new.blocks before after
  pub spared : HasRoom old → (new.blocks ≡ old.blocks) × (after ≡ before)

-- The directory of these names did so, and each other one has the blocks that it had.
pub record SpendsBlock (old new : DirTable) (before after : BlockSet) (names : List (List ℕ)) : Type 0 where
  pub here : (i : ℕ) → found_at old names ≡ Some (Dir i) → GetsRoom (dir_at old i) (dir_at new i) before after
  pub others : (i : ℕ) → found_at old names ≢ Some (Dir i) → blocks_at new i ≡ blocks_at old i

-- The inode is free now, and its blocks are the pool's.
pub record FreesInode (old new : DirTable) (before after : BlockSet) (i : ℕ) : Type 0 where
  pub free : new.free ≡ set.insert old.free i
  pub blocks : blocks_at new i ≡ []
  pub pool : after ≡ set.union before (set.from_list (blocks_at old i))
  pub others : (j : ℕ) → j ≢ i → blocks_at new j ≡ blocks_at old j

-- No block and no inode came or went.
pub record SpendsNone (old new : DirTable) (before after : BlockSet) : Type 0 where
  pub free : new.free ≡ old.free
  pub pool : after ≡ before
  pub blocks : (i : ℕ) → blocks_at new i ≡ blocks_at old i

-- A directory that goes is freed; the inode of a file isn't, since its bytes may still be used.
abbrev pub Frees : DirTable → DirTable → BlockSet → BlockSet → Option Found → Type 0
Frees old new before after (Some (Dir i)) = FreesInode old new before after i
Frees old new before after (Some (File i)) = SpendsNone old new before after
Frees old new before after None = SpendsNone old new before after

-- ---- refusals

-- A block is wanted and the pool has none.
pub record LacksBlock (pool : BlockSet) (need had : ℕ) : Type 0 where
  pub needed : need ≡ 1
  pub counted : had ≡ set.len pool
  pub fewer : had < need

-- With the pool's lowest block the directory would lie in so many extents, more than 56.
pub record LacksExtent (blocks : List ℕ) (pool : BlockSet) (need : ℕ) : Type 0 where
  pub block : ℕ
  pub lowest : IsLowest pool block
  pub counted : need ≡ length (extents_of (blocks ++ block ∷ []))
  pub more : 56 < need

-- Why a directory of which a slot is wanted gets none. Want of memory has no cause.
abbrev pub IsRoomCause : Directory → BlockSet → Excuse → Type 0
IsRoomCause d pool excuse.Memory = ⊤
IsRoomCause d pool (excuse.Blocks need had) = IsFull d × LacksBlock pool need had
IsRoomCause d pool (excuse.Extents need) = IsFull d × LacksExtent d.blocks pool need
IsRoomCause d pool _ = ⊥

-- And of a name for a new inode. The inode is looked at first.
abbrev pub IsSpaceCause : DirTable → ℕ → BlockSet → Excuse → Type 0
IsSpaceCause t i pool excuse.Memory = ⊤
IsSpaceCause t i pool excuse.Inodes = t.free ≡ set.empty
IsSpaceCause t i pool x = (t.free ≢ set.empty) × IsRoomCause (dir_at t i) pool x

-- the same of the directory that stands at these names
abbrev pub LacksRoom : DirTable → BlockSet → List (List ℕ) → Excuse → Type 0
LacksRoom t pool names x = (i : ℕ) → found_at t names ≡ Some (Dir i) → IsRoomCause (dir_at t i) pool x

abbrev pub LacksSpace : DirTable → BlockSet → List (List ℕ) → Excuse → Type 0
LacksSpace t pool names x = (i : ℕ) → found_at t names ≡ Some (Dir i) → IsSpaceCause t i pool x
