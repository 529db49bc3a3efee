-- How a session's closing ends.
use Rattle.std.specs.Prelude.{ℕ, Bool, true, false, Option, Some, None, Result, Ok, Err}
use Rattle.ufs_base.specs.Images.{Image}
use Rattle.ufs_base.specs.declared.lack.Lack.TheVariants as lack
use Rattle.ufs_brink.specs.declared.closing.CloseFault.{CloseFault}
use Rattle.ufs_brink.specs.declared.closing.CloseFault.TheVariants.{Device, Stopped, Lack}
use Rattle.ufs_disk.specs.Disk.{IsImage, State}
use Rattle.ufs_recovery.specs.Home.{OpensAlike}

-- the number of the disk's fault that it tells, if it is one of this call
abbrev pub device_told_by : CloseFault → Option ℕ
device_told_by (Device fault) = Some fault
device_told_by (Stopped fault) = None
device_told_by (Lack _) = None

abbrev pub closing_fault : Result (Unit {0}) CloseFault → Option ℕ
closing_fault (Ok x) = None
closing_fault (Err fault) = device_told_by fault

-- the number of the fault at which the store had stopped before
abbrev pub stopped_at : CloseFault → Option ℕ
stopped_at (Device fault) = None
stopped_at (Stopped fault) = Some fault
stopped_at (Lack _) = None

-- It tells that the disk gave back other bytes than it was given.
abbrev pub tells_unsound : CloseFault → Bool
tells_unsound (Lack lack.Unsound) = true
tells_unsound _ = false

-- The image opens as one does that a crash might have left before, and is proper where that one is.
pub record OpensAsLeft (sectors : ℕ) (before : State) (image : Image) : Type 0 where
  pub other : Image
  pub left : IsImage before other
  pub alike : OpensAlike sectors other image
