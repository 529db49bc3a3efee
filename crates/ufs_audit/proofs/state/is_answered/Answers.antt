use Rattle.std.proofs.Common.{◌≡◌, ◌∙◌, ℕ, List, Option, Some, None, sym, ap, subst, refl, true, false}
use Rattle.ufs_audit.proofs.state.is_answered.Goals as goal

pub returns-in_default : goal.returns-in_default
returns-in_default c = ((λ bad. cc), (λ answered. let none = c.in_default.ensures.none refl in let bad = sym none ∙ answered in cc))

pub returns : goal.returns
returns c =
    let text = c.as_slice.ensures in
    let line = c.as_slice-2.ensures in
    let printed = c.in_ok-text.ensures in (
      (λ t. let same = c.same_bytes.ensures.0 t in c.in-Some.ensures.some ∙ ap Some (sym line ∙ sym same ∙ text ∙ printed)),
      (λ answered. c.same_bytes.ensures.1 (text ∙ printed ∙ (let both = sym c.in-Some.ensures.some ∙ answered in cc))),
    )
