-- Names that may stand in a path, and the refusals of the model.
use Rattle.std.proofs.Common.{◌≡◌, ℕ, ◌≤◌, ◌<◌, List, [], ◌∷◌, ◌++◌, Bool, true, false, not, ltb, length, Option, None, ap, refl, ◌∙◌, subst, arith}
use Rattle.std.proofs.lemmas.Bool.{not-true, ltb-false, ltb-true, le-ltb, lt-ltb, and_parts}
use Rattle.std.proofs.lemmas.List.{append-nil}
use Rattle.std.specs.List.{list_all, AllByRecursion}
use Rattle.ufs_model.specs.declared.data.Errno.{Errno}
use Rattle.ufs_model.specs.declared.data.Errno.TheVariants.{Einval, Enametoolong}
use Rattle.ufs_base.specs.Choices.{refused_if, first_of}
use Rattle.ufs_model.specs.Paths.{components, component_refusal, components_refusal, text_refusal, in_range, is_dots, ends_in_slash, whole_path, IsWhole}
use Rattle.ufs_model.proofs.Facts.Allowed.{first_none, names_allowed}
use Rattle.ufs_model.proofs.Facts.Pieces.{IsPlain, ArePlain, is_free, is_some_name, components_plain, components_of}
use Rattle.ufs_path.specs.Names.{IsName}
use Rattle.ufs_path.specs.Texts.{joined}
use Rattle.ufs_path.proofs.Facts.Joined.{whole_path-joined}
use Rattle.ufs_path.proofs.SplitLemmas.{components-joined}

-- ---- one name

name_tests : (a d l : Bool) → first_of (refused_if (not a) Einval) (first_of (refused_if d Einval) (refused_if l Enametoolong)) ≡ None → (a ≡ true) × (d ≡ false) × (l ≡ false)
name_tests false d l e = cc
name_tests true true l e = cc
name_tests true false true e = cc
name_tests true false false e = (refl, refl, refl)

is_name : (name : List ℕ) → IsPlain name → component_refusal name ≡ None → IsName name
is_name name plain e =
    let tests = name_tests (list_all in_range name) (is_dots name) (ltb 58 (length name)) e in record {
      some = ltb-true 0 (length name) plain.some;
      short = ltb-false 58 (length name) tests.2;
      no_slash = plain.free;
      printable = tests.0;
      no_dots = tests.1;
    }

plain_name : (name : List ℕ) → IsName name → IsPlain name
plain_name name h = record { some = lt-ltb 0 (length name) h.some; free = h.no_slash }

name_allowed : (name : List ℕ) → IsName name → component_refusal name ≡ None
name_allowed name h = rw (h.printable, h.no_dots, le-ltb 58 (length name) h.short) refl

-- ---- names

all_allowed : (names : List (List ℕ)) → AllByRecursion IsName names → components_refusal names ≡ None
all_allowed [] h = refl
all_allowed (name ∷ names) h = ap (λ (o : Option Errno). first_of o (components_refusal names)) (name_allowed name h.0) ∙ all_allowed names h.1

each_name : (names : List (List ℕ)) → ArePlain names → components_refusal names ≡ None → AllByRecursion IsName names
each_name [] plain e = tt
each_name (name ∷ names) plain e =
    let both = first_none (component_refusal name) (components_refusal names) e in
    (is_name name plain.0 both.0, each_name names plain.1 both.1)

-- components that aren't refused may stand in a path
pub components_may_stand : (path : List ℕ) → components_refusal (components path) ≡ None → AllByRecursion IsName (components path)
components_may_stand path e = each_name (components path) (components_plain path) e

-- so those of a text that isn't refused may
pub components_are_names : (path : List ℕ) → text_refusal path ≡ None → AllByRecursion IsName (components path)
components_are_names path e = components_may_stand path (names_allowed path e)

pub names_plain : (names : List (List ℕ)) → AllByRecursion IsName names → ArePlain names
names_plain [] h = tt
names_plain (name ∷ names) h = (plain_name name h.0, names_plain names h.1)

-- ---- the end of a whole path

no_end : (name : List ℕ) → is_free name ≡ true → ends_in_slash name ≡ false
no_end [] e = refl
no_end (b ∷ []) e = not-true _ (and_parts _ _ e).0
no_end (b ∷ c ∷ name) e = no_end (c ∷ name) (and_parts _ _ e).1

-- what stands before some bytes doesn't matter
end_of_rest : (xs : List ℕ) (b : ℕ) (bs : List ℕ) → ends_in_slash (xs ++ b ∷ bs) ≡ ends_in_slash (b ∷ bs)
end_of_rest [] b bs = refl
end_of_rest (x ∷ []) b bs = refl
end_of_rest (x ∷ y ∷ xs) b bs = end_of_rest (y ∷ xs) b bs

after_slash : (name rest : List ℕ) → is_some_name name ≡ true → ends_in_slash (47 ∷ (name ++ rest)) ≡ ends_in_slash (name ++ rest)
after_slash [] rest e = absurd (let h : 0 < 0 = ltb-true 0 0 e in omega arith)
after_slash (b ∷ name) rest e = refl

no_end_joined : (name : List ℕ) (names : List (List ℕ)) → ArePlain (name ∷ names) → ends_in_slash (name ++ joined names) ≡ false
no_end_joined name [] h = ap ends_in_slash (append-nil name) ∙ no_end name h.0.free
no_end_joined name (next ∷ names) h =
    end_of_rest name 47 (next ++ joined names) ∙ after_slash next (joined names) h.1.0.some ∙ no_end_joined next names h.1

-- ---- whole paths of names

joined_allowed : (name : List ℕ) (names : List (List ℕ)) → AllByRecursion IsName (name ∷ names) → length (joined (name ∷ names)) ≤ 1023 → text_refusal (joined (name ∷ names)) ≡ None
joined_allowed name names h short =
    let plain = names_plain (name ∷ names) h in
    let pieces = components-joined name names plain in
    let each = all_allowed (name ∷ names) h in
    rw (le-ltb 1023 (length (joined (name ∷ names))) short, pieces, each, no_end_joined name names plain) refl

pub whole_allowed : (names : List (List ℕ)) → AllByRecursion IsName names → length (whole_path names) ≤ 1023 → text_refusal (whole_path names) ≡ None
whole_allowed [] h short = refl
whole_allowed (name ∷ names) h short =
    ap text_refusal (whole_path-joined name names) ∙ joined_allowed name names h (subst (λ path. length path ≤ 1023) (whole_path-joined name names) short)

-- a whole path of any length may stand in a tree
pub whole_of_names : (names : List (List ℕ)) → AllByRecursion IsName names → IsWhole (whole_path names)
whole_of_names names h =
    let pieces = components_of names (names_plain names h) in record {
      spelled = ap whole_path pieces;
      allowed = ap components_refusal pieces ∙ all_allowed names h;
    }
