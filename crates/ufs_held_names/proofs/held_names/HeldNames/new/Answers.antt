use Rattle.std.proofs.Common.{◌≡◌, ◌<◌, ℕ, ap, sym, subst, ◌∙◌}
use Rattle.std.specs.Prelude.{IsSome}
use Rattle.std.specs.FinMap as fin
use Rattle.ufs_joint.specs.Cells.{NamesCell}
use Rattle.ufs_joint.specs.NamesTurns.{live_files}
use Rattle.ufs_noted.specs.Noted.{Noted}
use Rattle.ufs_held_names.specs.Births.{KnowsBirths}
use Rattle.ufs_held_names.specs.HeldNames.{first_names}
use Rattle.ufs_held_names.proofs.After.{kept_noted}
use Rattle.ufs_held_names.proofs.Births.{births_all}
use Rattle.ufs_held_names.proofs.held_names.HeldNames.new.Goals as goal

pub invariant_of-result : goal.invariant_of-result
invariant_of-result g c =
    let x = c.args.noted in
    let e = c.see_numbers.ensures in
    let cell = first_names x c.see_numbers.new.right.names in
    let is = kept_noted x c.see_numbers.new.right e.held in
    let all = ap (λ (q : NamesCell). q.named) e.same ∙ c.requires.all ∙ ap (λ (q : Noted). live_files q.names) is in (
      e.held,
      e.calm,
      subst (λ (n : ℕ). KnowsBirths n cell) (sym (c.next_number-reached.ensures ∙ ap (λ (q : Noted). q.names.next) is)) (births_all cell all (subst (λ (q : Noted). (file : ℕ) → IsSome (fin.get q.names.held file) → file < q.names.next) is e.below)),
    )

pub returns : goal.returns
returns g c = c.see_numbers.ensures.same
