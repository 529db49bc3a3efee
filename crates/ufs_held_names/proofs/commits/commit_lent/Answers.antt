use Rattle.std.proofs.Common.{◌<◌, ◌≡◌, ℕ, ap, sym, subst, ◌∙◌}
use Rattle.std.specs.Prelude.{IsSome}
use Rattle.std.specs.FinMap as fin
use Rattle.ufs_noted.specs.Noted.{Noted}
use Rattle.ufs_held_names.specs.HeldNames.{AreCommitted, first_names}
use Rattle.ufs_held_names.proofs.After.{kept_noted}
use Rattle.ufs_held_names.proofs.Births.{births_tried}
use Rattle.ufs_held_names.proofs.Committed.{on_err, on_ok}
use Rattle.ufs_held_names.proofs.commits.commit_lent.Goals as goal

pub returns-clause-ok : goal.returns-clause-ok
returns-clause-ok g c =
    on_ok c.commit_told-done.result (λ a. subst (AreCommitted g.N.Naming.start.is_visible (first_names c.args.noted.now c.args.right.now.names)) (sym c.see_numbers.ensures.same) a) c.commit_told-done.ensures.ok

pub returns-clause-err : goal.returns-clause-err
returns-clause-err g c = on_err c.commit_told-done.result (λ a. c.see_numbers.ensures.same ∙ a) c.commit_told-done.ensures.err

pub returns-clause-births : goal.returns-clause-births
returns-clause-births g c =
    let visible = g.N.Naming.start.is_visible in
    let r = c.commit_told-done.result in
    let y = c.commit_told-done.new.noted in
    let was = first_names c.args.noted.now c.args.right.now.names in
    let now = first_names y c.see_numbers.new.right.names in
    let is = kept_noted y c.see_numbers.new.right c.see_numbers.ensures.held in
    births_tried visible r was now c.args.reached.now c.reach.new.reached
    (on_ok r (λ a. subst (AreCommitted visible was) (sym c.see_numbers.ensures.same) a) c.commit_told-done.ensures.ok) (on_err r (λ a. c.see_numbers.ensures.same ∙ a) c.commit_told-done.ensures.err)
    (on_ok r (λ a. a ∙ ap (λ (q : Noted). q.names.next) is) c.reach.ensures.up) c.reach.ensures.stays (subst (λ (q : Noted). (file : ℕ) → IsSome (fin.get q.names.held file) → file < q.names.next) is c.see_numbers.ensures.below) c.requires.births
