-- What one call of a leg did.
use Rattle.std.specs.Prelude.{◌≡◌, ◌<◌, ℕ, Bool, IsTrue, false, List}
use Rattle.ufs_base.specs.Faults.{raised}
use Rattle.ufs_base.specs.Images.{Image}
use Rattle.ufs_disk.specs.Disk.{IsImage, IsPartlyWritten, Mixes, overwritten}
use Rattle.ufs_disk.specs.Moments.{Moments, LeavesOnly, reads}

-- it wrote some sectors, and says whether it did
pub record Wrote (keeps : Bool) (sector : ℕ) (bytes : List ℕ) (old new : Moments) (done : Bool) : Type 0 where
  pub reading : IsTrue done → reads new ≡ overwritten sector bytes (reads old)
  pub content : Mixes (reads old) (overwritten sector bytes (reads old)) (reads new)
  pub crash : LeavesOnly keeps (IsPartlyWritten sector bytes old.state) old new

-- it left the content as it was: a read or a barrier
pub record Rests (keeps : Bool) (old new : Moments) : Type 0 where
  pub content : reads new ≡ reads old
  pub crash : LeavesOnly keeps (IsImage old.state) old new

-- they are alike in all sectors but the last
abbrev pub IsSame : ℕ → Image → Image → Type 0
IsSame size old new = (sector : ℕ) → sector < size → new sector ≡ old sector

-- a call of a leg raised the leg's count of faults where it failed, and left it where it passed
pub record Counts (before now : ℕ) (done : Bool) : Type 0 where
  pub passed : IsTrue done → now ≡ before
  pub failed : done ≡ false → now ≡ raised before
