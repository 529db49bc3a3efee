use Rattle.std.proofs.Common.{◌≡◌, subst, ◌∙◌}
use Rattle.ufs_joint.specs.Cells.{NamesCell}
use Rattle.ufs_held_names.specs.HeldNames.{AreCommitted, first_names}
use Rattle.ufs_held_names.proofs.Committed.{on_err, on_ok}
use Rattle.ufs_held_names.proofs.held_names.HeldNames.commit.Goals as goal

pub returns-clause-ok : goal.returns-clause-ok
returns-clause-ok g c =
    on_ok c.commit_lent.result (λ a. subst (λ (q : NamesCell). AreCommitted g.N.Naming.start.is_visible q (first_names c.commit_lent.new.noted c.commit_lent.new.right.names)) c.self.view_is a) c.commit_lent.ensures.ok

pub returns-clause-err : goal.returns-clause-err
returns-clause-err g c = on_err c.commit_lent.result (λ a. a ∙ c.self.view_is) c.commit_lent.ensures.err
