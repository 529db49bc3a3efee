use Rattle.std.proofs.Common.{◌≡◌, ◌*◌, replicate, take}
use Rattle.ufs_layout.specs.DentryForm.{free_slot}
use Rattle.ufs_extent.specs.Runs.{blocks_of}
use Rattle.ufs_start.proofs.dirs.bare_dir.Given as goal

abbrev pub invariant-loop-place : goal.invariant-loop-place
invariant-loop-place l = record {
  blocks : l.dir.blocks ≡ take l.place (blocks_of l.extents);
  slots : l.dir.slots ≡ replicate (64 * l.place) free_slot;
}
