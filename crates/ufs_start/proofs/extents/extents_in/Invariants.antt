use Rattle.std.proofs.Common.{◌≡◌, map, take}
use Rattle.ufs_start.specs.Extents.{run_of}
use Rattle.ufs_start.proofs.extents.extents_in.Given as goal

abbrev pub invariant-loop-extent : goal.invariant-loop-extent
invariant-loop-extent l = l.runs ≡ map run_of (take l.extent-index l.form.extents)
