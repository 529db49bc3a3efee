use Rattle.std.proofs.Common.{arith}
use Rattle.ufs_worker.proofs.Places.{none_of_none}
use Rattle.ufs_worker.proofs.shelf.Shelf.new.Goals as goal

pub invariant_of-result : goal.invariant_of-result
invariant_of-result g c =
    let n = c.new.ensures.len in
    let m = c.new-2.ensures.len in
    (none_of_none c.new.result.entries n, omega (arith, n, m))
