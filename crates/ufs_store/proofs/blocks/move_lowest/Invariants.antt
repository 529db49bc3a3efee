use Rattle.std.proofs.Common.{◌≡◌}
use Rattle.ufs_bitmap.specs.Space.{Space}
use Rattle.ufs_store.proofs.Moves.{IsMoving}
use Rattle.ufs_store.proofs.blocks.move_lowest.Given as goal

abbrev pub invariant-loop-left : goal.invariant-loop-left
invariant-loop-left l = record {
  range : l.from ≡ (let s : Space = record l.initial.from { free = l.from.free } in s);
  moving : IsMoving l.want l.left l.initial.from.free l.from.free l.initial.pool l.pool;
}

abbrev pub decreases-loop-left : goal.decreases-loop-left
decreases-loop-left l = l.left
