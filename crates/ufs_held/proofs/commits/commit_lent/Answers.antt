use Rattle.std.proofs.Common.{◌≤◌, ◌++◌, ℕ, List, ap, sym, subst, ◌∙◌}
use Rattle.std.proofs.lemmas.Result.{on_err_weaker, on_ok_weaker}
use Rattle.ufs_file_commits.specs.State.{state_of}
use Rattle.ufs_joint.specs.Cells.{FileCell}
use Rattle.ufs_held.specs.Held.{first_cell}
use Rattle.ufs_held.proofs.commits.commit_lent.Goals as goal

pub returns-clause-known : goal.returns-clause-known
returns-clause-known g c = on_ok_weaker c.commit_own-done.result (λ all seen. subst (λ (q : FileCell). q.changed ≤ q.known) (sym c.hand_on.ensures.cell) (all seen)) c.commit_own-done.ensures.known

pub returns-clause-kept : goal.returns-clause-kept
returns-clause-kept g c = on_err_weaker c.commit_own-done.result (λ same. c.hand_on.ensures.cell ∙ same) c.commit_own-done.ensures.kept

pub returns-clause-cell : goal.returns-clause-cell
returns-clause-cell g c =
    let x = state_of c.args.file.now c.args.commits.now in
    let y = state_of c.commit_own-done.new.file c.commit_own-done.new.commits in
    c.hand_on.ensures.cell ∙ c.commit_own-done.ensures.cell
    ∙ (λ i. record (first_cell x c.args.right.now.files) { value = y; known = (sym (ap (λ (q : FileCell). q.known) c.hand_on.ensures.cell)) i })

pub returns-clause-faults : goal.returns-clause-faults
returns-clause-faults g c = c.hand_on.ensures.faults ∙ ap (λ (fs : List ℕ). fs ++ c.args.guest.now.faults) c.commit_own-done.ensures.faults

pub returns-clause-stop : goal.returns-clause-stop
returns-clause-stop g c fault is = c.hand_on.ensures.stop fault (c.commit_own-done.ensures.stop fault is)

pub returns-clause-stops : goal.returns-clause-stops
returns-clause-stops g c fault told = c.hand_on.ensures.stop fault (c.commit_own-done.ensures.stops fault told)
