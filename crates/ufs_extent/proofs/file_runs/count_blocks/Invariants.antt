use Rattle.std.proofs.Common.{◌≡◌, ◌≤◌, ◌*◌, take}
use Rattle.ufs_extent.specs.Places.{block_count}
use Rattle.ufs_extent.proofs.file_runs.count_blocks.Given as goal

abbrev pub invariant-loop-run : goal.invariant-loop-run
invariant-loop-run l = record { so_far : l.count ≡ block_count (take l.run-index l.runs); small : l.count ≤ 65536 * l.run-index }
