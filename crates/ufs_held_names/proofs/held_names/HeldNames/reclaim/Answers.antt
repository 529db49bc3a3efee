use Rattle.std.proofs.Common.{◌≡◌, subst, sym, ◌∙◌}
use Rattle.std.specs.FinSet as set
use Rattle.ufs_joint.specs.Cells.{NamesCell}
use Rattle.ufs_turns.specs.Lent.{AreTold}
use Rattle.ufs_held_names.specs.HeldNames.{first_names}
use Rattle.ufs_held_names.specs.Reclaims.{IsReclaimed, MayReclaim}
use Rattle.ufs_held_names.proofs.Committed.{on_err, on_ok}
use Rattle.ufs_held_names.proofs.held_names.HeldNames.reclaim.Goals as goal

pub reclaim_lent-requires-clause-may : goal.reclaim_lent-requires-clause-may
reclaim_lent-requires-clause-may g c = subst (λ (q : NamesCell). MayReclaim q c.args.files.now) (sym c.self.view_is) c.requires.may

pub returns-clause-ok : goal.returns-clause-ok
returns-clause-ok g c = on_ok c.reclaim_lent.result (λ a. subst (λ (q : NamesCell). IsReclaimed q (first_names c.reclaim_lent.new.noted c.reclaim_lent.new.right.names)) c.self.view_is a) c.reclaim_lent.ensures.ok

pub returns-clause-err : goal.returns-clause-err
returns-clause-err g c = on_err c.reclaim_lent.result (λ a. a ∙ c.self.view_is) c.reclaim_lent.ensures.err

pub returns-clause-back : goal.returns-clause-back
returns-clause-back g c =
    on_ok c.reclaim_lent.result (λ a. subst (λ (q : NamesCell). AreTold (g.T.Turns.tells c.args.door.now) (g.T.Turns.tells c.reclaim_lent.new.door) (λ had has. has ≡ set.union had q.dropped)) c.self.view_is a) c.reclaim_lent.ensures.back
