use Rattle.std.proofs.Common.{◌+◌, take, sym, ◌∙◌, subst}
use Rattle.std.specs.Prelude.{IsTrue, List}
use Rattle.std.proofs.lemmas.Result.{err_from_is_err_and}
use Rattle.ufs_layout.specs.declared.records.Committed.{Committed}
use Rattle.ufs_overlay.specs.Over.{rise_above}
use Rattle.ufs_overlay.specs.Seen.{HasAdded}
use Rattle.ufs_volume.specs.Journals.{IsFoldable}
use Rattle.ufs_volume.proofs.Fronts.{rises_front, one_more, each_at}
use Rattle.ufs_volume.proofs.overlaid.overlay_of.Goals as goal

pub loop-at-preserved : goal.loop-at-preserved
loop-at-preserved c =
    let i = c.loop-at.invariant in
    let list = c.args.list.now in
    let at = c.loop-at.at in
    let more = one_more list at c.index-list-at.result c.loop-at-test.true c.index-list-at.is in
    record {
      added = λ rising.
          subst (HasAdded c.add_one.new.overlay) (sym more)
          (c.in_ok-add_one.ensures.added (take at list) (i.added rising) (subst (λ (l : List Committed). IsTrue (rise_above 0 l)) more (rises_front 0 list (at + 1) rising)));
      geometry = c.add_one.ensures.geometry ∙ i.geometry;
    }

pub returns-in_err-add_one-clause-outside : goal.returns-in_err-add_one-clause-outside
returns-in_err-add_one-clause-outside c all =
    let p = err_from_is_err_and c.from_residual.result c.from_residual.ensures.1 in
    rw (p.1, p.2) (c.in_err-add_one.ensures.outside (each_at (IsFoldable c.args.geometry.now) c.args.list.now c.loop-at.at c.index-list-at.result c.loop-at-test.true c.index-list-at.is all))
