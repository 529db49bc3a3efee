use Rattle.std.proofs.Common.{rules, ℕ, ◌≡◌, ◌≤◌, ◌<◌, ◌⊎◌, List, Option, Some, ap, sym, ◌∙◌, ⊎_elim, subst, arith, length}
use Rattle.ufs_layout.specs.InodeForm.{InodeForm}
use Rattle.std.proofs.lemmas.Option.{slice_get_within}
use Rattle.ufs_recovery.proofs.Highest.{most_so_far, stands}
use Rattle.ufs_recovery.proofs.orphans.highest_number.Goals as goal

pub loop-place-preserved : goal.loop-place-preserved
loop-place-preserved c =
    let forms : List (Option InodeForm) = c.args.forms.now in
    let form : InodeForm = c.in-Some.form in
    let before : ℕ = c.loop-place.highest in
    let now : ℕ = c.max-highest.result in
    let same : c.form.inside.number ≡ form.number = ap (λ (f : InodeForm). f.number) c.form.view_is in
    let left : before ≤ now = search rules in
    let own : c.form.inside.number ≤ now = search rules in
    let right : form.number ≤ now = subst (λ (n : ℕ). n ≤ now) same own in
    let one : (now ≡ before) ⊎ (now ≡ c.form.inside.number) = search rules in
    let at = stands forms c.loop-place.place form c.index-forms-place.result c.loop-place-test.true c.index-forms-place.is c.in-Some.is in
    record {
      most = most_so_far forms c.loop-place.place form c.index-forms-place.result c.loop-place-test.true c.index-forms-place.is c.in-Some.is before now left right c.loop-place.invariant.most;
      least = λ n positive below. ⊎_elim (λ e. subst (λ (m : ℕ). m < n) (sym e) (c.loop-place.invariant.least n positive below))
          (λ e. subst (λ (m : ℕ). m < n) (sym (e ∙ same)) (below c.loop-place.place form at)) one;
    }

pub returns-clause-most : goal.returns-clause-most
returns-clause-most c place form at =
    let within = slice_get_within c.args.forms.now place (Some form) at in
    let past : length c.args.forms.now ≤ c.loop-place.place = c.loop-place-test.false in
    c.loop-place.invariant.most place form (omega (arith, within, past)) at
