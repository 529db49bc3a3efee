-- A disk that was only read.
use Rattle.std.specs.Prelude.{◌≡◌, ◌<◌, ℕ, ◌+◌, ◌*◌, Bool, List, take, drop}
use Rattle.ufs_base.specs.Images.{Image}
use Rattle.ufs_disk.specs.Disk.{IsImage}
use Rattle.ufs_disk.specs.Moments.{Moments, IsStill, LeavesOnly, reads}

pub record IsReadOnly (keeps : Bool) (old new : Moments) : Type 0 where
  -- it reads as before
  pub content : reads new ≡ reads old
  -- at no moment a crash leaves what it might not have left before
  pub crash : LeavesOnly keeps (IsImage old.state) old new
  -- it was in no other state: nothing was written, not even what stood there
  pub still : IsStill keeps old new

-- the bytes are those of the eight sectors from one on
abbrev pub AreSectors : Image → ℕ → List ℕ → Type 0
AreSectors image first bytes = (i : ℕ) → i < 8 → take 512 (drop (512 * i) bytes) ≡ image (first + i)
