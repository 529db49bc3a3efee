use Rattle.std.proofs.Common.{◌≡◌, ap, arith, refl}
use Rattle.std.specs.FinSet as set
use Rattle.std.specs.Ordering.{nat_cmp}
use Rattle.ufs_bitmap.specs.Blocks.{BlockSet}
use Rattle.ufs_bitmap.proofs.SetLemmas.{len-difference_run}
use Rattle.ufs_bitmap.proofs.taking.take_run.Goals as goal

pub unreachable-requires : goal.unreachable-requires
unreachable-requires c =
    let e : c.args.pool.now ≡ set.empty = c.in-None.ensures.none.0 refl in
    omega (arith, c.requires.some, c.requires.enough, ap (λ (s : BlockSet). set.len s) e, set.len-empty nat_cmp)

pub returns-clause-left : goal.returns-clause-left
returns-clause-left c =
    let r = c.in-Some.run' in
    omega (arith, c.requires.enough, len-difference_run c.args.pool.now r c.in-Some.ensures.lowest.held, ap (λ (s : BlockSet). set.len s) c.in-Some.ensures.taken)
