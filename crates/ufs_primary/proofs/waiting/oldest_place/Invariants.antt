use Rattle.std.proofs.Common.{◌-◌}
use Rattle.std.specs.VecDeque.{deque_len}
use Rattle.ufs_primary.proofs.Oldest.{WaitBelow}
use Rattle.ufs_primary.proofs.waiting.oldest_place.Given as goal

abbrev pub invariant-loop-one : goal.invariant-loop-one
invariant-loop-one g l = WaitBelow l.stock.home.owners l.waiting.items l.place

abbrev pub decreases-loop-one : goal.decreases-loop-one
decreases-loop-one g l = deque_len l.waiting - l.place
