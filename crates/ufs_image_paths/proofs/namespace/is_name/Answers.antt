use Rattle.std.proofs.Common.{◌≡◌, ◌<◌, ℕ, List, Bool, true, false, not, is_some, ap, sym, subst, refl, ◌∙◌, length}
use Rattle.std.specs.Prelude.{option_and_then}
use Rattle.ufs_model.specs.Paths.{text_refusal}
use Rattle.ufs_model.proofs.Facts.Allowed.{missing}
use Rattle.ufs_path.specs.Faults.{errno_of}
use Rattle.ufs_image_paths.proofs.NameLemmas.{name_of_text, text_of_name, untold}
use Rattle.ufs_image_paths.proofs.namespace.is_name.Goals as goal

no_more : (b : Bool) → not b ≡ false → b ≡ true
no_more true e = refl
no_more false e = sym e

pub returns-then-text-gt1 : goal.returns-then-text-gt1
returns-then-text-gt1 c = λ name is free. (
  (λ yes.
      let none = missing c.path_fault.result (c.is_none.ensures ∙ ap not yes) in
      name_of_text name free (subst (λ (l : List ℕ). 1 < length l) is c.if-text-gt1.true) (ap text_refusal (sym is) ∙ sym c.path_fault.ensures.errno ∙ ap (option_and_then errno_of) none)),
  (λ named.
      let none = untold c.path_fault.result c.path_fault.ensures.told (c.path_fault.ensures.errno ∙ ap text_refusal is ∙ text_of_name name named) in
      no_more c.is_none.result (sym c.is_none.ensures ∙ ap is_some none)),
)
