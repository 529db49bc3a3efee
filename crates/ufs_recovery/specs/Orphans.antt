-- Inodes that are used and that no walk from the root meets.
use Rattle.std.specs.Prelude.{ℕ, ◌≡◌, ◌≢◌, ◌+◌, ◌-◌, ◌^◌, ◌<◌, ◌≤◌, ◌⊎◌, ⊤, List, Bool, true, false, ◌==◌, if◌then◌else◌, Option, Some, None, length, slice_index_or}
use Rattle.std.specs.List.{slice_get}
use Rattle.ufs_base.specs.declared.lack.Lack.{Lack}
use Rattle.ufs_base.specs.declared.lack.Lack.TheVariants.{Memory, AtEnd, Unsound, Told}
use Rattle.ufs_layout.specs.declared.geometry.Geometry.{Geometry}
use Rattle.ufs_base.specs.Images.{Image}
use Rattle.ufs_layout.specs.InodeForm.{InodeForm}
use Rattle.ufs_layout.specs.Superblock.{geometry_of}
use Rattle.ufs_layout.specs.declared.superblock.Super.{Super}
use Rattle.ufs_image.specs.Catalog.{Catalog, IsInode, catalog_at}
use Rattle.ufs_image.specs.Changes.{IsReached, IsUnreached}
use Rattle.ufs_image.specs.Images.{inode_at, form_at}
use Rattle.ufs_image.specs.Nodes.{sound_nodes}
use Rattle.ufs_damage.specs.Findings.{AreFindingsOf, CatalogRead}
use Rattle.ufs_metadata.specs.declared.fault.RecoverFault.{RecoverFault}
use Rattle.ufs_metadata.specs.declared.fault.RecoverFault.TheVariants as fault
use Rattle.ufs_disk.specs.Disk.{IsSettled}
use Rattle.ufs_disk.specs.Moments.{Moments, reads}
use Rattle.ufs_recovery.specs.Home.{IsAtHome, KeepsTree}
use Rattle.ufs_recovery.specs.Recovered.{HasNoOrphans}
use Rattle.ufs_recovery.specs.Cleared.{Numbers}

-- Where a number stands, no walk meets the inode, which has this commit number.
abbrev pub AreUnreached : Catalog → Numbers → Type 0
AreUnreached c numbers = (place number : ℕ) → slice_get numbers place ≡ Some (Some number) → IsUnreached c (place + 1) × (number ≡ (c.forms (place + 1)).number)

-- Numbers stand for all orphans.
pub record AreOrphans (g : Geometry) (c : Catalog) (numbers : Numbers) : Type 0 where
  pub sized : length numbers ≡ g.inodes
  pub unreached : AreUnreached c numbers
  pub others : (place : ℕ) → slice_get numbers place ≡ Some None → IsReached c (place + 1) ⊎ ((c.forms (place + 1)).kind ≡ 0)

-- Numbers stand for the directories among them.
pub record AreOrphanDirs (g : Geometry) (c : Catalog) (numbers : Numbers) : Type 0 where
  pub sized : length numbers ≡ g.inodes
  pub unreached : AreUnreached c numbers
  pub dirs : (place number : ℕ) → slice_get numbers place ≡ Some (Some number) → (c.forms (place + 1)).kind ≡ 2
  pub others : (place : ℕ) → slice_get numbers place ≡ Some None → IsReached c (place + 1) ⊎ ((c.forms (place + 1)).kind ≢ 2)

-- The image is at home and in use, and these numbers stand for its orphans and for the directories among them.
pub record MayPrune (sectors : ℕ) (superblock : Super) (image : Image) (g : Geometry) (numbers dirs : Numbers) : Type 0 where
  pub home : IsAtHome sectors superblock image
  pub in_use : superblock.clean ≡ false
  pub geometry : g ≡ geometry_of superblock
  pub all : AreOrphans (geometry_of superblock) (catalog_at (geometry_of superblock) image) numbers
  pub all_dirs : AreOrphanDirs (geometry_of superblock) (catalog_at (geometry_of superblock) image) dirs

-- It is at home still, without orphans, and each inode has the commit number that it had.
pub record IsPruned (sectors : ℕ) (superblock : Super) (before after : Image) : Type 0 where
  pub home : IsAtHome sectors superblock after
  pub named : HasNoOrphans (geometry_of superblock) after
  pub numbers : (inode : ℕ) → IsInode (geometry_of superblock) inode → (form_at (geometry_of superblock) after inode).number ≡ (form_at (geometry_of superblock) before inode).number

-- If these numbers stood for the orphans, they are freed.
abbrev pub AreFreed : (sectors : ℕ) → Geometry → (numbers dirs : Numbers) → (before after : Image) → Type 0
AreFreed sectors g numbers dirs before after = (superblock : Super) → MayPrune sectors superblock before g numbers dirs → IsPruned sectors superblock before after

-- Meanwhile the tree is kept.
abbrev pub KeepsTreeFreeing : Bool → (sectors : ℕ) → Geometry → (numbers dirs : Numbers) → Moments → Moments → Type 0
KeepsTreeFreeing keeps sectors g numbers dirs old new =
    IsSettled old.state → (superblock : Super) → MayPrune sectors superblock (reads old) g numbers dirs → KeepsTree keeps sectors old new

-- ---- what is read of them

-- the commit number of an inode that is used and that no walk meets
abbrev pub orphan_number : Option InodeForm → Bool → Option ℕ
orphan_number None reached = None
orphan_number (Some form) true = None
orphan_number (Some form) false = if form.kind == 0 then None else Some form.number

-- the same of a directory
abbrev pub orphan_dir_number : Option InodeForm → Bool → Option ℕ
orphan_dir_number None reached = None
orphan_dir_number (Some form) true = None
orphan_dir_number (Some form) false = if form.kind == 2 then Some form.number else None

-- Each place has what the test makes of the form and the mark there.
abbrev pub AreTold : (Option InodeForm → Bool → Option ℕ) → List (Option InodeForm) → List Bool → Numbers → Type 0
AreTold test forms marks numbers = (place : ℕ) → place < length numbers → slice_get numbers place ≡ Some (test (slice_index_or forms place None) (slice_index_or marks place false))

-- No place has a number.
abbrev pub HasNone : Numbers → Type 0
HasNone numbers = (place number : ℕ) → slice_get numbers place ≡ Some (Some number) → ⊥

-- The commit numbers of these inodes are below this one.
abbrev pub AreNumbersBelow : List (Option InodeForm) → ℕ → Type 0
AreNumbersBelow forms n = (place : ℕ) (form : InodeForm) → slice_get forms place ≡ Some (Some form) → form.number < n

-- For want of this there is no plan: memory was refused, or there is no next epoch, or no commit number above this one and those of
-- the inodes.
abbrev pub IsLackOfPlan : Super → List (Option InodeForm) → ℕ → Lack → Type 0
IsLackOfPlan superblock forms used (Memory refused) = ⊤
IsLackOfPlan superblock forms used AtEnd = (superblock.epoch ≡ 2 ^ 64 - 1) ⊎ ((n : ℕ) → used < n → AreNumbersBelow forms n → 2 ^ 64 ≤ n)
IsLackOfPlan superblock forms used Unsound = ⊥
IsLackOfPlan superblock forms used Told = ⊥

-- What a fault lacks is a lack of the plan; one that is for want of nothing says nothing of it.
abbrev pub LacksForPlan : Super → List (Option InodeForm) → ℕ → RecoverFault → Type 0
LacksForPlan superblock forms used (fault.Lack why) = IsLackOfPlan superblock forms used why
LacksForPlan superblock forms used _ = ⊤

-- What was read of an image that has the same inodes.
pub record IsReadOf (g : Geometry) (image : Image) (findings : CatalogRead) : Type 0 where
  pub read : Image
  pub are : AreFindingsOf g read findings
  pub forms : (inode : ℕ) → inode_at g image inode ≡ inode_at g read inode
  pub nodes : sound_nodes g image ≡ sound_nodes g read
