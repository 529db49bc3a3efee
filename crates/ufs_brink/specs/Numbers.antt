-- How far a session raises the epoch and the next commit number of an image.
use Rattle.std.specs.Prelude.{ℕ, ◌≡◌, ◌≤◌, ◌+◌, ◌*◌}
use Rattle.ufs_base.specs.Images.{Image}
use Rattle.ufs_image.specs.Volume.{superblock_of, volume_of}
use Rattle.ufs_layout.specs.Superblock.{geometry_of}
use Rattle.ufs_recovery.specs.Recovered.{AreCommitsBelow, AreInodesBelow, log_of}
use Rattle.ufs_told.specs.Numbers.{most_raised}
use Rattle.ufs_store.specs.State.{StoreState, geometry_of_store}

-- The image may go on with this next commit number: it isn't lower than the image's own, and is above those of all inodes, as the
-- committed transactions leave them, and of these.
pub record IsNextOf (image : Image) (n : ℕ) : Type 0 where
  pub some : 1 ≤ n
  pub known : (superblock_of image).next ≤ n
  pub inodes : AreInodesBelow (geometry_of (superblock_of image)) (volume_of (superblock_of image) image).image n
  pub logged : AreCommitsBelow (log_of image) n

-- A recovery raised the epoch by no more than this, and the next commit number no higher than it had to.
pub record IsMendedBy (epochs : ℕ) (before behind : Image) : Type 0 where
  pub geometry : geometry_of (superblock_of behind) ≡ geometry_of (superblock_of before)
  pub epoch : (superblock_of before).epoch ≤ (superblock_of behind).epoch
  pub epoch_most : (superblock_of behind).epoch ≤ (superblock_of before).epoch + epochs
  pub number : (n : ℕ) → IsNextOf before n → IsNextOf behind n

-- A store goes on with the image's own numbers.
pub record GoesOnFrom (image : Image) (s : StoreState) : Type 0 where
  pub geometry : geometry_of_store s ≡ geometry_of (superblock_of image)
  pub epoch : s.superblock.epoch ≡ (superblock_of image).epoch
  pub number : s.journal.number ≡ (superblock_of image).next

-- So it begins behind a recovery and a mending.
pub record BeginsFrom (before : Image) (s : StoreState) : Type 0 where
  pub geometry : geometry_of_store s ≡ geometry_of (superblock_of before)
  pub epoch : (superblock_of before).epoch ≤ s.superblock.epoch
  pub epoch_most : s.superblock.epoch ≤ (superblock_of before).epoch + 2
  pub number_most : (n : ℕ) → IsNextOf before n → s.journal.number ≤ n

-- The closing raises them so from those of the store.
pub record ClosesFrom (s : StoreState) (behind : Image) : Type 0 where
  pub epoch : s.superblock.epoch ≤ (superblock_of behind).epoch
  pub epoch_most : (superblock_of behind).epoch ≤ s.superblock.epoch + ((geometry_of_store s).inodes + 3)
  pub number_most : (superblock_of behind).next ≤ s.journal.number + ((geometry_of_store s).inodes + 2)

-- A whole session raises the epoch of an image, and the next commit number with which it might go on, by no more than so many
-- requests and one more may raise them.
pub record RaisesNumbers (requests : ℕ) (before behind : Image) : Type 0 where
  pub epoch : (superblock_of before).epoch ≤ (superblock_of behind).epoch
  pub epoch_most : (superblock_of behind).epoch ≤ (superblock_of before).epoch + (requests + 1) * most_raised (geometry_of (superblock_of before))
  pub number_most : (n : ℕ) → IsNextOf before n → (superblock_of behind).next ≤ n + (requests + 1) * most_raised (geometry_of (superblock_of before))
