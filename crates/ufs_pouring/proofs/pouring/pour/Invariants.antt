use Rattle.std.proofs.Common.{◌≡◌, ◌-◌, ◌≤◌}
use Rattle.std.specs.FinSet as set
use Rattle.ufs_pouring.proofs.pouring.pour.Given as goal

abbrev pub invariant-loop-turn : goal.invariant-loop-turn
invariant-loop-turn l = record {
  all : set.union l.into l.from ≡ set.union l.initial.into l.initial.from;
  left : set.len l.from ≤ l.count - l._turn;
}
