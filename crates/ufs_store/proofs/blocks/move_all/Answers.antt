use Rattle.std.proofs.Common.{◌≡◌, ◌∙◌, ◌<◌, ap, sym, arith, subst, rules}
use Rattle.std.specs.FinSet as set
use Rattle.ufs_extent.specs.declared.Run.{Run}
use Rattle.ufs_base.specs.declared.sizes.TheConstants.{MAX_BLOCKS}
use Rattle.ufs_bitmap.specs.Blocks.{BlockSet, run_set}
use Rattle.ufs_bitmap.specs.Space.{Space}
use Rattle.ufs_bitmap.proofs.SetLemmas.{difference_from, len-difference_run}
use Rattle.ufs_store.proofs.Moves.{IsReturning, goes_on_returning, ends_returning, ranged}
use Rattle.ufs_store.proofs.blocks.move_all.Goals as goal

pub loop-run-smaller : goal.loop-run-smaller
loop-run-smaller c =
    let r : Run = c.in-Some.run' in
    let some = c.in-Some.ensures.run.0 in
    let fewer = len-difference_run c.loop-run.pool r c.in-Some.ensures.lowest.held in
    let less : set.len (set.difference c.loop-run.pool (run_set r)) < set.len c.loop-run.pool = omega (arith, some, fewer) in
    subst (λ (s : BlockSet). set.len s < set.len c.loop-run.pool) (sym c.in-Some.ensures.taken) less

pub loop-run-preserved : goal.loop-run-preserved
loop-run-preserved c =
    let r : Run = c.in-Some.run' in
    let free : BlockSet = c.loop-run.to.free in
    let pool : BlockSet = c.loop-run.pool in
    let more : c.give.new.self.free ≡ set.union free (run_set r) = ap (λ (s : Space). s.free) c.give.ensures in
    let taken : c.take.new.self ≡ set.difference pool (run_set r) = c.in-Some.ensures.taken in
    record {
      range = ranged c.args.to.now c.loop-run.to c.give.new.self (set.union free (run_set r)) c.loop-run.invariant.range c.give.ensures;
      inside = λ b is. c.loop-run.invariant.inside b (difference_from pool (run_set r) b (ap (λ (s : BlockSet). set.contains s b) (sym taken) ∙ is));
      returning = subst (λ (x : BlockSet × BlockSet). IsReturning c.args.to.now.free c.args.pool.now x.0 x.1) (λ i. (sym more i, sym taken i))
          (goes_on_returning c.args.to.now.free c.args.pool.now free pool MAX_BLOCKS r c.loop-run.invariant.returning c.in-Some.ensures.lowest);
    }

pub returns-clause-back : goal.returns-clause-back
returns-clause-back c =
    let old : Space = c.args.to.now in
    let none : c.loop-run.pool ≡ set.empty = search rules in
    let all = ends_returning old.free c.args.pool.now c.loop-run.to.free c.loop-run.pool c.loop-run.invariant.returning none in
    c.loop-run.invariant.range ∙ (λ i. record { first = old.first; blocks = old.blocks; free = all i })
