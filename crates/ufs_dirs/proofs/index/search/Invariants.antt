use Rattle.std.proofs.Common.{◌-◌}
use Rattle.ufs_dirs.proofs.SearchLemmas.{IsWindow}
use Rattle.ufs_dirs.proofs.index.search.Given as goal

abbrev pub invariant-loop-low : goal.invariant-loop-low
invariant-loop-low l = IsWindow l.slots l.order l.name l.low l.high

abbrev pub decreases-loop-low : goal.decreases-loop-low
decreases-loop-low l = l.high - l.low
