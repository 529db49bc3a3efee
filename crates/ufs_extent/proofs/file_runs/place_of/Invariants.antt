use Rattle.std.proofs.Common.{◌≡◌, ◌+◌, take}
use Rattle.ufs_extent.specs.Places.{block_count}
use Rattle.ufs_extent.proofs.file_runs.place_of.Given as goal

abbrev pub invariant-loop-at : goal.invariant-loop-at
invariant-loop-at l = block_count (take l.at l.runs) + l.before ≡ l.index
