-- What a call leaves in the data blocks in which nothing is folded: the bytes of files.
use Rattle.std.specs.Prelude.{ℕ, ◌≡◌, List, false}
use Rattle.ufs_disk.specs.Disk.{State, IsImage}
use Rattle.ufs_base.specs.Images.{Image}
use Rattle.ufs_image.specs.Images.{block_at}
use Rattle.ufs_layout.specs.declared.geometry.Geometry.{Geometry}
use Rattle.ufs_layout.specs.declared.records.Committed.{Committed}
use Rattle.ufs_ledger.specs.Ledger.{IsDataBlock, is_held}

-- It has there what one image of the state has.
pub record KeepsData (g : Geometry) (log : List Committed) (state : State) (image : Image) : Type 0 where
  pub before : Image
  pub left : IsImage state before
  pub same : (block : ℕ) → IsDataBlock g block → is_held log block ≡ false → block_at image block ≡ block_at before block
