-- Which disks are mounted.
use Rattle.std.specs.Prelude.{ℕ, ◌≡◌, ◌<◌, IsTrue, false, None, Ok}
use Rattle.ufs_disk.specs.Disk.{State, IsSettled, seen}
use Rattle.ufs_layout.specs.Superblock.{geometry_of}
use Rattle.ufs_layout.specs.declared.superblock.Super.{Super}
use Rattle.ufs_image.specs.Damage.{bad_tree}
use Rattle.ufs_image.specs.Proper.{IsProperClean}
use Rattle.ufs_image.specs.Volume.{Volume, volume}
use Rattle.ufs_base.specs.Images.{Image}
use Rattle.ufs_image.specs.Catalog.{IsInode}
use Rattle.ufs_image.specs.Images.{block_at, form_at}
use Rattle.ufs_journal.specs.Kept.{HasEarlier}
use Rattle.ufs_ledger.specs.Ledger.{Ledger}
use Rattle.ufs_ledger.specs.Changes.{beginning, opening_ledger}

-- The disk has an undamaged image with this superblock, in whose journal everything is of an earlier epoch, which is as a clean one
-- is to be where it is marked so, and whose inodes have commit numbers below the next one, and nothing is pending on it.
pub record IsMountable (sectors : ℕ) (state : State) (superblock : Super) : Type 0 where
  pub settled : IsSettled state
  pub as_volume : Volume
  pub taken : volume sectors (seen state) ≡ Ok as_volume
  pub superblock_is : as_volume.superblock ≡ superblock
  pub undamaged : bad_tree as_volume.geometry as_volume.image ≡ None
  pub earlier : HasEarlier (geometry_of superblock) superblock.epoch (seen state)
  pub if_clean : IsTrue superblock.clean → IsProperClean as_volume (seen state)
  pub numbers : (inode : ℕ) → IsInode (geometry_of superblock) inode → (form_at (geometry_of superblock) (seen state) inode).number < superblock.next

-- the superblock of an image in use
abbrev pub in_use : Super → Super
in_use superblock = record superblock { clean = false }

-- what the disk may have while its image is marked in use
abbrev pub marking : Super → Image → Ledger
marking superblock image = beginning (in_use superblock) (block_at image) (opening_ledger superblock image)
