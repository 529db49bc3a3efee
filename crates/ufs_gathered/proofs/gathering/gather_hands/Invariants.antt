use Rattle.std.proofs.Common.{◌≡◌}
use Rattle.ufs_gathered.specs.Gathered.{with_all}
use Rattle.ufs_gathered.proofs.gathering.gather_hands.Given as goal

abbrev pub invariant-loop-other : goal.invariant-loop-other
invariant-loop-other g l = l.hand ≡ with_all l.fn.hand l.yielded
