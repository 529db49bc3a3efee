-- When a catalog has these directories, which steps may be made, and which names leave a catalog sound.
use Rattle.std.specs.Prelude.{ℕ, ◌≡◌, ◌≢◌, ◌≤◌, ◌<◌, ◌*◌, ◌⊎◌, ⊤, ◌==◌, List, [], ◌∷◌, ◌++◌, length, replicate, Bool, true, IsTrue, Some, if◌then◌else◌}
use Rattle.std.specs.List.{slice_get, AllByRecursion}
use Rattle.std.specs.FinSet as set
use Rattle.ufs_base.specs.declared.sizes.TheConstants.{BLOCK, SLOTS_PER_BLOCK}
use Rattle.ufs_layout.specs.Areas.{first_of_data}
use Rattle.ufs_layout.specs.DentryForm.{DentryForm, free_slot, is_named}
use Rattle.ufs_layout.specs.declared.geometry.Geometry.{Geometry}
use Rattle.ufs_dirs.specs.Changes.{IsSlot}
use Rattle.ufs_dirs.specs.declared.Slot.{Slot}
use Rattle.ufs_dir_tree.specs.DirTable.{dir_at, slots_at, blocks_at}
use Rattle.ufs_dir_tree.specs.Space.{extents_of}
use Rattle.ufs_image.specs.Nodes.{blocks_of}
use Rattle.ufs_image.specs.Damage.{is_plain_name}
use Rattle.ufs_image.specs.Catalog.{Catalog, IsInode, HasBlock, HasSlots}
use Rattle.ufs_image.specs.Sound.{IsInData}
use Rattle.ufs_image.specs.Written.{FitsDentryForm}
use Rattle.ufs_dir_laws.specs.Tables.{IsTableOf}
use Rattle.ufs_dir_tree.specs.Steps.{DirState, Step, Born, Grown, Put, Freed, after}

-- ---- the catalog of a state

-- what a sound catalog says of its inodes and blocks, without the names
pub record HasSoundForms (g : Geometry) (c : Catalog) : Type 0 where
  pub root : (c.forms 1).kind ≡ 2
  pub in_data : (inode : ℕ) → IsInode g inode → AllByRecursion (IsInData g) (c.forms inode).extents
  pub blocks_once : (i j p q block : ℕ) → HasBlock g c i p block → HasBlock g c j q block → (i ≡ j) × (p ≡ q)
  pub room : (inode : ℕ) → IsInode g inode → (c.forms inode).size ≤ BLOCK * length (blocks_of (c.forms inode))
  pub whole : (dir : ℕ) → IsInode g dir → (c.forms dir).kind ≡ 2 → (c.forms dir).size ≡ BLOCK * length (blocks_of (c.forms dir))

-- A block of the data area with free slots, which no inode has.
pub record IsZeroed (g : Geometry) (c : Catalog) (block : ℕ) : Type 0 where
  pub from : first_of_data g ≤ block
  pub under : block < g.blocks
  pub slots : c.slots block ≡ replicate SLOTS_PER_BLOCK free_slot
  pub unheld : (inode place : ℕ) → HasBlock g c inode place block → ⊥

-- The catalog has these directories, inodes of these kinds, and these blocks of zeros.
pub record HasState (g : Geometry) (c : Catalog) (s : DirState) : Type 0 where
  pub forms : HasSoundForms g c
  pub table : IsTableOf g c s.table
  pub kinds : (inode : ℕ) → IsInode g inode → (c.forms inode).kind ≡ s.kinds inode
  pub sized : (dir : ℕ) → (c.forms dir).kind ≡ 2 → HasSlots g c dir
  pub zeroed : (block : ℕ) → s.zeroed block ≡ true → IsZeroed g c block

-- with one more block of zeros
abbrev pub with_zeroed : ℕ → (ℕ → Bool) → ℕ → Bool
with_zeroed block blocks k = if k == block then true else blocks k

-- ---- which steps may be made

pub record MayBeBorn (g : Geometry) (s : DirState) (inode kind : ℕ) : Type 0 where
  pub in_range : IsInode g inode
  pub free : set.contains s.table.free inode ≡ true
  pub known : (kind ≡ 1) ⊎ (kind ≡ 2)

pub record MayGrow (g : Geometry) (s : DirState) (dir block : ℕ) : Type 0 where
  pub in_range : IsInode g dir
  pub is_dir : s.kinds dir ≡ 2
  pub zeroed : s.zeroed block ≡ true
  pub extents : length (extents_of (blocks_at s.table dir ++ block ∷ [])) ≤ 56

pub record MayPut (g : Geometry) (s : DirState) (dir : ℕ) (slot : Slot) (d : DentryForm) : Type 0 where
  pub in_range : IsInode g dir
  pub in_dir : IsSlot (dir_at s.table dir) slot
  pub form : FitsDentryForm d

pub record MayFree (g : Geometry) (inode : ℕ) : Type 0 where
  pub in_range : IsInode g inode
  pub no_root : inode ≢ 1

abbrev pub MayStep : Geometry → DirState → Step → Type 0
MayStep g s (Born i kind) = MayBeBorn g s i kind
MayStep g s (Grown i block) = MayGrow g s i block
MayStep g s (Put i slot d) = MayPut g s i slot d
MayStep g s (Freed i) = MayFree g i

-- each after those before it
abbrev pub MaySteps : Geometry → DirState → List Step → Type 0
MaySteps g s [] = ⊤
MaySteps g s (x ∷ xs) = MayStep g s x × MaySteps g (after x s) xs

-- ---- which names are sound

-- A name stands at this place of the directory.
pub record HasName (g : Geometry) (s : DirState) (dir place : ℕ) (d : DentryForm) : Type 0 where
  pub in_range : IsInode g dir
  pub there : slice_get (slots_at s.table dir) place ≡ Some d
  pub named : is_named d ≡ true

-- It may stand in a path, and its inode is a used one of its kind, and no root.
pub record FitsName (g : Geometry) (s : DirState) (d : DentryForm) : Type 0 where
  pub plain : IsTrue (is_plain_name d.name)
  pub in_range : IsInode g d.inode
  pub kind : s.kinds d.inode ≡ d.kind
  pub used : d.kind ≢ 0
  pub no_root : d.inode ≢ 1

pub record HasSoundNames (g : Geometry) (s : DirState) : Type 0 where
  pub fit : (dir place : ℕ) (d : DentryForm) → HasName g s dir place d → FitsName g s d
  -- a directory has a name once
  pub names_once : (dir p q : ℕ) (d e : DentryForm) → HasName g s dir p d → HasName g s dir q e → d.name ≡ e.name → p ≡ q
  -- one place names an inode
  pub inodes_once : (dir other p q : ℕ) (d e : DentryForm) → HasName g s dir p d → HasName g s other q e → d.inode ≡ e.inode → (dir ≡ other) × (p ≡ q)
