use Rattle.std.proofs.Common.{◌≡◌, ◌≤◌, ◌^◌, length, vec_len}
use Rattle.ufs_load.specs.Plan.{Lead}
use Rattle.ufs_load.proofs.planning.plan.Given as goal

abbrev pub invariant-loop-made : goal.invariant-loop-made
invariant-loop-made l = record {
  lead : Lead l.loads l.workers l.moves.items l.left.items;
  count : length l.moves.items ≡ l._made;
  small : length l.left.items ≤ 2 ^ 32;
}
