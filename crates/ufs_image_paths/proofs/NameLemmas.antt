-- When a text behind a slash is a name that may stand in a path.
use Rattle.std.proofs.Common.{◌≡◌, ℕ, ◌<◌, ◌≤◌, List, [], ◌∷◌, ◌++◌, true, false, Bool, Option, Some, None, is_some, ap, sym, subst, refl, ◌∙◌, length, arith, ltb}
use Rattle.std.specs.Prelude.{IfSome, IsSome, option_and_then}
use Rattle.std.specs.List.{AllByRecursion}
use Rattle.std.proofs.lemmas.Bool.{lt-ltb}
use Rattle.ufs_model.specs.Paths.{component_refusal, components, components_refusal, text_refusal, whole_path}
use Rattle.ufs_model.specs.declared.data.Errno.{Errno}
use Rattle.ufs_model.proofs.Facts.Allowed.{first_none, names_allowed}
use Rattle.ufs_model.proofs.Facts.Pieces.{IsPlain, components_cut, is_free, one_component}
use Rattle.ufs_path.specs.Faults.{errno_of}
use Rattle.ufs_path.specs.Names.{IsName}
use Rattle.ufs_path.specs.declared.fault.PathFault.{PathFault}
use Rattle.ufs_path.proofs.NameLemmas.{components_may_stand, whole_allowed}
use Rattle.ufs_image_paths.specs.Placed.{IsPathName}
use Rattle.ufs_base.specs.Choices.{first_of}

module _ (name : List ℕ) where
  one : IsPathName name → components (47 ∷ name) ≡ name ∷ []
  one is = components_cut [] name ∙ one_component name is.plain

  pub name_of_text : is_free name ≡ true → 1 < length (47 ∷ name) → text_refusal (47 ∷ name) ≡ None → IsPathName name
  name_of_text free long e =
      let plain : IsPlain name = record { some = lt-ltb 0 (length name) (omega (arith, long)); free = free } in
      let each : components (47 ∷ name) ≡ name ∷ [] = components_cut [] name ∙ one_component name plain in
      record { plain = plain; allowed = (first_none (component_refusal name) None (sym (ap components_refusal each) ∙ names_allowed (47 ∷ name) e)).0 }

  pub text_of_name : IsPathName name → text_refusal (47 ∷ name) ≡ None
  text_of_name is =
      let allowed : components_refusal (components (47 ∷ name)) ≡ None = ap components_refusal (one is) ∙ ap (λ (o : Option Errno). first_of o None) is.allowed in
      let names : AllByRecursion IsName (name ∷ []) = subst (AllByRecursion IsName) (one is) (components_may_stand (47 ∷ name) allowed) in
      whole_allowed (name ∷ []) names (omega (arith, names.0.short))

-- a fault is told, or there is none
pub untold : (o : Option PathFault) → IfSome o (λ f. IsSome (errno_of f)) → option_and_then errno_of o ≡ None → o ≡ None
untold None told e = refl
untold (Some f) told e = absurd (of (errno_of f) told e)
  where
    of : (o : Option Errno) → IsSome o → o ≡ None → ⊥
    of None told e = let no : false ≡ true = told in cc
    of (Some x) told e = cc
