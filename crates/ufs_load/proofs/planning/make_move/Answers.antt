use Rattle.std.proofs.lemmas.List.Edits.{map_over_more}
use Rattle.std.proofs.lemmas.List.{get_or_default}
use Rattle.std.proofs.Common.{arith, ap, ◌∙◌, ◌≡◌, ◌<◌, ◌+◌, ◌++◌, List, map, take, drop, set, get_or, subst, sym, length}
use Rattle.ufs_model.specs.declared.data.Load.{Load}
use Rattle.ufs_load.specs.Plan.{on_worker}
use Rattle.ufs_load.proofs.planning.make_move.Goals as goal

pub loop-load-preserved : goal.loop-load-preserved
loop-load-preserved c =
    let f = on_worker c.args.next.file c.args.next.to in
    let at : Load = get_or c.loop-load.loads c.loop-load.load-index (record { file = 0; worker = 0; count = 0 }) in
    let none : Load = record { file = 0; worker = 0; count = 0 } in
    let long = c.loop-load.auto.loads in
    let here : c.loop-load.load-index < length c.args.loads.now = c.loop-load-test.true in
    let within : c.loop-load.load-index < length c.loop-load.loads = omega arith in
    ap (λ (x : Load). set c.loop-load.loads c.loop-load.load-index x) c.moved.ensures
    ∙ map_over_more f c.args.loads.now c.loop-load.loads c.loop-load.load-index at c.loop-load-test.true c.loop-load.invariant (get_or_default c.loop-load.loads c.loop-load.load-index none at within)
