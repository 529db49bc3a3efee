-- Which disks may be mounted.
use Rattle.std.specs.Prelude.{ℕ, ◌≡◌, true}
use Rattle.ufs_disk.specs.Disk.{IsSettled, State, seen}
use Rattle.ufs_image.specs.Proper.{IsProperImage}
use Rattle.ufs_image.specs.Volume.{superblock_of}
use Rattle.ufs_store.specs.Mounting.{IsMountable}

-- A disk on which nothing is pending, and which reads a proper image that is marked clean, may be mounted by its superblock.
abbrev pub CleanDisksMount : Type 0
CleanDisksMount = (sectors : ℕ) (state : State) → IsSettled state → IsProperImage sectors (seen state) → (superblock_of (seen state)).clean ≡ true → IsMountable sectors state (superblock_of (seen state))
