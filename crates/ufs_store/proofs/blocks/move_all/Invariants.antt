use Rattle.std.proofs.Common.{◌≡◌}
use Rattle.std.specs.FinSet as set
use Rattle.ufs_bitmap.specs.Space.{Space}
use Rattle.ufs_store.specs.Blocks.{AreInside}
use Rattle.ufs_store.proofs.Moves.{IsReturning}
use Rattle.ufs_store.proofs.blocks.move_all.Given as goal

abbrev pub invariant-loop-run : goal.invariant-loop-run
invariant-loop-run l = record {
  range : l.to ≡ (let s : Space = record l.initial.to { free = l.to.free } in s);
  inside : AreInside l.initial.to l.pool;
  returning : IsReturning l.initial.to.free l.initial.pool l.to.free l.pool;
}

abbrev pub decreases-loop-run : goal.decreases-loop-run
decreases-loop-run l = set.len l.pool
