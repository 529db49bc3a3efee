use Rattle.std.proofs.Common.{◌≡◌, ap, sym, subst, ◌∙◌}
use Rattle.std.proofs.lemmas.Result.{on_err_weaker, on_ok_weaker}
use Rattle.std.specs.FinSet as set
use Rattle.ufs_bitmap.specs.Taking.{set_of}
use Rattle.ufs_file_commits.specs.State.{DurableState, file_committed, state_of}
use Rattle.ufs_joint.specs.Cells.{FileCell}
use Rattle.ufs_turns.specs.Lent.{AreTold}
use Rattle.ufs_held.specs.Held.{first_cell}
use Rattle.ufs_held.proofs.After.{kept_value, seen_value}
use Rattle.ufs_held.proofs.held.HeldFile.commit.Goals as goal

pub commit_lent-requires-clause-born : goal.commit_lent-requires-clause-born
commit_lent-requires-clause-born g c = ap (λ (q : FileCell). q.born) c.self.view_is ∙ c.requires.born

pub returns-clause-committed : goal.returns-clause-committed
returns-clause-committed g c =
    let old = seen_value (state_of c.self.inside.hand c.self.inside.commits) c.self.inside.right c.self.invariant.0 c.args.self.now c.self.view_is in
    let new = kept_value (state_of c.commit_lent.new.file c.commit_lent.new.commits) c.commit_lent.new.right c.commit_lent.ensures.held in
    on_ok_weaker c.commit_lent.result (λ done. sym new ∙ done ∙ ap file_committed old) c.commit_lent.ensures.committed

pub returns-clause-kept : goal.returns-clause-kept
returns-clause-kept g c = on_err_weaker c.commit_lent.result (λ same. same ∙ c.self.view_is) c.commit_lent.ensures.kept

pub returns-clause-rest : goal.returns-clause-rest
returns-clause-rest g c =
    let y = state_of c.commit_lent.new.file c.commit_lent.new.commits in
    let new = kept_value y c.commit_lent.new.right c.commit_lent.ensures.held in
    c.commit_lent.ensures.cell ∙ (λ i. record (c.self.view_is i) { value = new i; known = (first_cell y c.commit_lent.new.right.files).known })

pub returns-clause-freed : goal.returns-clause-freed
returns-clause-freed g c =
    let old = seen_value (state_of c.self.inside.hand c.self.inside.commits) c.self.inside.right c.self.invariant.0 c.args.self.now c.self.view_is in
    on_ok_weaker c.commit_lent.result
    (λ told. subst (λ (q : DurableState). AreTold (g.T.Turns.tells c.args.door.now) (g.T.Turns.tells c.commit_lent.new.door) (λ had has. has ≡ set.union had (set_of q.dropped))) old told) c.commit_lent.ensures.freed
