use Rattle.std.proofs.Common.{◌≡◌, length}
use Rattle.ufs_lease.specs.Leases.{is_at_or_below}
use Rattle.ufs_lease.proofs.path.is_at_or_below.Given as goal

abbrev pub invariant-loop-name : goal.invariant-loop-name
invariant-loop-name l = is_at_or_below l.dir l.below ≡ is_at_or_below l.above l.path

abbrev pub decreases-loop-name : goal.decreases-loop-name
decreases-loop-name l = length l.dir
