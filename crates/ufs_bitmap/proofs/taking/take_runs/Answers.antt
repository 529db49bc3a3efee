use Rattle.std.proofs.Common.{◌≡◌, ◌-◌, ◌++◌, ◌∷◌, [], sym, arith, List, subst}
use Rattle.ufs_extent.specs.declared.Run.{Run}
use Rattle.ufs_extent.specs.Runs.{IsRun}
use Rattle.ufs_bitmap.specs.Blocks.{BlockSet}
use Rattle.std.proofs.lemmas.List.Elements.{All-push, All-same}
use Rattle.ufs_bitmap.specs.Taking.{Takes}
use Rattle.ufs_bitmap.proofs.TakingLemmas.{takes_more, takes_count}
use Rattle.ufs_bitmap.proofs.taking.take_runs.Goals as goal

pub unwrap-requires : goal.unwrap-requires
unwrap-requires c =
    let v = c.loop-left.invariant in
    c.push.ensures.succeeds (omega (arith, takes_count c.args.pool.now c.args.want c.loop-left.runs.items c.loop-left.pool c.loop-left.left v.taken, v.room, c.loop-left-test.true))

pub loop-left-preserved : goal.loop-left-preserved
loop-left-preserved c =
    let v = c.loop-left.invariant in
    let old : List Run = c.loop-left.runs.items in
    let r : Run = c.take_run-run.result in
    let is : c.push.new.self.items ≡ old ++ r ∷ [] = rw c.unwrap.ensures at c.push.ensures.items in
    let more = takes_more c.args.pool.now c.args.want old c.loop-left.pool c.loop-left.left r v.taken c.loop-left-test.true c.take_run-run.ensures.run c.take_run-run.ensures.lowest in
    record {
      taken = subst (λ (rs : List Run). Takes c.args.pool.now c.args.want rs c.take_run-run.new.pool (c.loop-left.left - r.length)) (sym is)
          (subst (λ (s : BlockSet). Takes c.args.pool.now c.args.want (old ++ r ∷ []) s (c.loop-left.left - r.length)) (sym c.take_run-run.ensures.taken) more);
      runs = All-same IsRun _ _ is (All-push IsRun old r v.runs c.take_run-run.ensures.run);
      enough = omega (arith, c.take_run-run.ensures.left);
      room = omega (arith, v.room, c.push.ensures.capacity);
    }
