-- Where an inode's blocks lie, as a file or a directory keeps it.
use Rattle.std.specs.Prelude.{ℕ, ◌≡◌, ◌≤◌, length, Some}
use Rattle.std.specs.List.{slice_get}
use Rattle.ufs_base.specs.declared.sizes.TheConstants.{MAX_EXTENTS}
use Rattle.ufs_extent.specs.Runs.{IsRun}
use Rattle.ufs_extent.specs.declared.Run.{Run}
use Rattle.ufs_layout.specs.InodeForm.{InodeForm}
use Rattle.ufs_layout.specs.declared.inode.Extent.{Extent}

abbrev pub run_of : Extent → Run
run_of e = record { start = e.start; length = e.length }

-- Each of its extents is a run of blocks, and there are no more than an inode has.
pub record HasRuns (form : InodeForm) : Type 0 where
  pub few : length form.extents ≤ MAX_EXTENTS
  pub each : (place : ℕ) (e : Extent) → slice_get form.extents place ≡ Some e → IsRun (run_of e)
