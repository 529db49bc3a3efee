use Rattle.std.proofs.Common.{ap, sym, ◌∙◌, arith, List, subst, length}
use Rattle.std.specs.FinSet as set
use Rattle.ufs_extent.specs.declared.Run.{Run}
use Rattle.ufs_extent.specs.Runs.{blocks_of, appended_all}
use Rattle.ufs_bitmap.specs.Taking.{IsApart, set_of}
use Rattle.ufs_bitmap.proofs.TakingLemmas.{takes_apart, takes_undone, takes_count}
use Rattle.ufs_file.proofs.hand.FileHand.take.Goals as goal

pub count_with-count-requires-clause-few : goal.count_with-count-requires-clause-few
count_with-count-requires-clause-few c =
    omega (arith, ap length c.as_slice.ensures.value, takes_count c.args.pool.now c.args.need c.in_ok-runs.runs.items c.take_runs.new.pool 0 c.in_ok-runs.ensures.taken, c.requires)

pub give_runs-requires-clause-apart : goal.give_runs-requires-clause-apart
give_runs-requires-clause-apart c =
    subst (λ (l : List Run). IsApart c.take_runs.new.pool (blocks_of l)) (sym c.as_slice-then-count.ensures.value)
    (takes_apart c.args.pool.now c.args.need c.in_ok-runs.runs.items c.take_runs.new.pool 0 c.in_ok-runs.ensures.taken)

pub returns-then-count-clause-cause : goal.returns-then-count-clause-cause
returns-then-count-clause-cause c = record {
  left = c.take_runs.new.pool;
  runs = c.in_ok-runs.runs.items;
  in_turn = c.in_ok-runs.ensures.taken;
  counted = c.count_with-count.ensures ∙ ap (λ (l : List Run). length (appended_all c.args.self.now.extents l)) c.as_slice.ensures.value;
  more = omega (arith, c.if-count.true);
}

pub returns-then-count-clause-pool : goal.returns-then-count-clause-pool
returns-then-count-clause-pool c =
    c.give_runs.ensures ∙ ap (λ (l : List Run). set.union c.take_runs.new.pool (set_of l)) c.as_slice-then-count.ensures.value
    ∙ takes_undone c.args.pool.now c.args.need c.in_ok-runs.runs.items c.take_runs.new.pool 0 c.in_ok-runs.ensures.taken
