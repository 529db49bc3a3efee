use Rattle.std.proofs.Common.{◌+◌, ◌≡◌, sym, ap, ◌∙◌, subst, List, take, get_or, true≢false}
use Rattle.std.proofs.lemmas.List.{take_more}
use Rattle.ufs_model.specs.declared.data.Load.{Load}
use Rattle.ufs_load.specs.Choice.{IsBestOf}
use Rattle.ufs_load.proofs.ChoiceLemmas.{best_skips, best_takes}
use Rattle.ufs_load.proofs.choice.chosen.Goals as goal
use Rattle.ufs_load.proofs.choice.chosen.Goals.{then-is_fit, else-is_fit}

pub loop-load-preserved : goal.loop-load-preserved
loop-load-preserved c =
    let loads = c.args.loads.now in
    let i = c.loop-load.load-index in
    let none : Load = record { file = 0; worker = 0; count = 0 } in
    let x : Load = get_or loads i none in
    subst (λ (l : List Load). IsBestOf l c.args.from c.args.limit c.if-is_fit.best) (sym (take_more loads i none c.loop-load-test.true))
    (elim c.if-is_fit.branch [
      | then-is_fit w ↦ subst (IsBestOf _ c.args.from c.args.limit) (sym w.best-is) (best_takes (take i loads) x c.args.from c.args.limit c.loop-load.best w.better.result c.loop-load.invariant (c.is_fit.ensures.0 w.if-is_fit.true) w.better.ensures)
      | else-is_fit w ↦ subst (IsBestOf _ c.args.from c.args.limit) (sym w.best-is) (best_skips (take i loads) x c.args.from c.args.limit c.loop-load.best c.loop-load.invariant (λ fit. true≢false (sym (c.is_fit.ensures.1 fit) ∙ w.if-is_fit.false)))
    ])
