-- What a recovery begins with and what it leaves.
use Rattle.std.specs.Prelude.{ℕ, ◌≡◌, ◌≢◌, ◌<◌, ◌≤◌, ◌+◌, ◌-◌, ◌^◌, ◌⊎◌, ⊤, List, [], length, true}
use Rattle.std.specs.List.{AllByRecursion}
use Rattle.ufs_base.specs.Images.{Image}
use Rattle.ufs_base.specs.declared.lack.Lack.{Lack}
use Rattle.ufs_base.specs.declared.lack.Lack.TheVariants.{Memory, AtEnd, Unsound, Told}
use Rattle.ufs_disk.specs.Disk.{State, IsSettled, seen}
use Rattle.ufs_layout.specs.InodeForm.{InodeForm}
use Rattle.ufs_layout.specs.Superblock.{geometry_of}
use Rattle.ufs_layout.specs.declared.geometry.Geometry.{Geometry}
use Rattle.ufs_layout.specs.declared.records.Committed.{Committed}
use Rattle.ufs_image.specs.Catalog.{IsInode, catalog_at}
use Rattle.ufs_image.specs.Changes.{IsReached}
use Rattle.ufs_image.specs.Images.{form_at}
use Rattle.ufs_image.specs.Journal.{committed}
use Rattle.ufs_image.specs.Nodes.{blocks_of}
use Rattle.ufs_image.specs.Proper.{IsProperImage}
use Rattle.ufs_image.specs.Volume.{superblock_of, volume_of}
use Rattle.ufs_model.specs.Excuses as excuses
use Rattle.ufs_metadata.specs.Lacks.{IsOfNumbers}
use Rattle.ufs_metadata.specs.declared.fault.RecoverFault.{RecoverFault}
use Rattle.ufs_metadata.specs.declared.fault.RecoverFault.TheVariants as fault

-- Nothing is pending, and what the disk reads is proper.
pub record IsProperDisk (sectors : ℕ) (state : State) : Type 0 where
  pub settled : IsSettled state
  pub proper : IsProperImage sectors (seen state)

-- the transactions that are committed in the journal
abbrev pub log_of : Image → List Committed
log_of image = committed (geometry_of (superblock_of image)) (superblock_of image).epoch image

-- Each used inode is met by a walk from the root.
abbrev pub HasNoOrphans : Geometry → Image → Type 0
HasNoOrphans g image = (inode : ℕ) → IsInode g inode → (form_at g image inode).kind ≢ 0 → IsReached (catalog_at g image) inode

-- A file has as many blocks as its size needs; of another inode this says nothing.
abbrev pub IsFitted : InodeForm → Type 0
IsFitted form = form.kind ≡ 1 → excuses.blocks_of form.size ≡ length (blocks_of form)

-- Each file has.
abbrev pub AreFitted : Geometry → Image → Type 0
AreFitted g image = (inode : ℕ) → IsInode g inode → IsFitted (form_at g image inode)

-- The commit numbers of all inodes are below this one.
abbrev pub AreInodesBelow : Geometry → Image → ℕ → Type 0
AreInodesBelow g image n = (inode : ℕ) → IsInode g inode → (form_at g image inode).number < n

-- So are those of the transactions.
abbrev pub AreCommitsBelow : List Committed → ℕ → Type 0
AreCommitsBelow log n = AllByRecursion (λ (c : Committed). c.number < n) log

-- What was in use is clean, in the next epoch, its next commit number is the least that isn't below the one it had and is above those
-- of all inodes and of all transactions that were committed, each inode has the number that it had as those left it, no inode is used without a
-- name, and no file has a block that its size doesn't need.
pub record IsRecovered (before after : Image) : Type 0 where
  pub superblock : superblock_of after ≡ record (superblock_of before) { version = 1; epoch = (superblock_of before).epoch + 1; next = (superblock_of after).next; clean = true }
  pub known : (superblock_of before).next ≤ (superblock_of after).next
  pub inodes : (inode : ℕ) → IsInode (geometry_of (superblock_of before)) inode → (form_at (geometry_of (superblock_of before)) after inode).number < (superblock_of after).next
  pub logged : AllByRecursion (λ (c : Committed). c.number < (superblock_of after).next) (log_of before)
  pub least : (n : ℕ) → 1 ≤ n → (superblock_of before).next ≤ n → AreInodesBelow (geometry_of (superblock_of before)) after n → AreCommitsBelow (log_of before) n → (superblock_of after).next ≤ n
  pub numbers : (inode : ℕ) → IsInode (geometry_of (superblock_of before)) inode
      → (form_at (geometry_of (superblock_of before)) after inode).number ≡ (form_at (geometry_of (superblock_of before)) (volume_of (superblock_of before) before).image inode).number
  pub named : HasNoOrphans (geometry_of (superblock_of before)) after
  pub fitted : AreFitted (geometry_of (superblock_of before)) after

-- For want of this a recovery is refused: memory was refused, or the image has the last epoch, or no commit number is left above those of
-- all inodes, as the transactions leave them, and of all transactions.
abbrev pub IsLackOfRecovery : Image → Lack → Type 0
IsLackOfRecovery image (Memory refused) = ⊤
IsLackOfRecovery image AtEnd =
    ((superblock_of image).epoch ≡ 2 ^ 64 - 1)
    ⊎ ((n : ℕ) → 1 ≤ n → AreInodesBelow (geometry_of (superblock_of image)) (volume_of (superblock_of image) image).image n → AreCommitsBelow (log_of image) n → 2 ^ 64 ≤ n)
IsLackOfRecovery image Unsound = ⊥
IsLackOfRecovery image Told = ⊥

-- What a fault lacks is a lack of a recovery; one that is for want of nothing says nothing of it.
abbrev pub LacksForRecovery : Image → RecoverFault → Type 0
LacksForRecovery image (fault.Lack why) = IsLackOfRecovery image why
LacksForRecovery image _ = ⊤

-- Nothing is pending, what the disk reads is proper and marked clean, and nothing is committed in its epoch.
pub record IsCleanDisk (sectors : ℕ) (state : State) : Type 0 where
  pub proper : IsProperDisk sectors state
  pub clean : (superblock_of (seen state)).clean ≡ true
  pub empty : log_of (seen state) ≡ []

-- It is for want of a number.
abbrev pub IsAtEnd : RecoverFault → Type 0
IsAtEnd (fault.Lack AtEnd) = ⊤
IsAtEnd _ = ⊥

-- What it wants, if anything, is memory or a number.
abbrev pub LacksNumbers : RecoverFault → Type 0
LacksNumbers (fault.Lack why) = IsOfNumbers why
LacksNumbers _ = ⊤
