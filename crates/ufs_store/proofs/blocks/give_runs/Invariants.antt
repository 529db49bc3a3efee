use Rattle.std.proofs.Common.{◌≡◌, drop}
use Rattle.std.specs.FinSet as set
use Rattle.ufs_extent.specs.Runs.{blocks_of}
use Rattle.ufs_bitmap.specs.Space.{Space}
use Rattle.ufs_bitmap.specs.Taking.{IsApart, set_of}
use Rattle.ufs_store.proofs.blocks.give_runs.Given as goal

abbrev pub invariant-loop-run : goal.invariant-loop-run
invariant-loop-run l = record {
  range : l.to ≡ (let s : Space = record l.initial.to { free = l.to.free } in s);
  apart : IsApart l.to.free (blocks_of (drop l.run-index l.run-items));
  so_far : set.union l.to.free (set_of (drop l.run-index l.run-items)) ≡ set.union l.initial.to.free (set_of l.run-items);
}
