-- What holds of a path that isn't refused.
use Rattle.std.proofs.Common.{◌≡◌, ℕ, List, [], ◌∷◌, ◌++◌, Bool, true, false, not, eqb, ltb, length, Option, Some, None, is_some, is_none, ap, refl, ◌∙◌}
use Rattle.ufs_base.specs.Choices.{refused_if, first_of}
use Rattle.ufs_model.specs.Paths.{components, whole_path, whole_of, text_refusal, components_refusal, IsWhole}
use Rattle.ufs_model.specs.declared.data.Errno.{Errno}
use Rattle.ufs_model.specs.declared.data.Errno.TheVariants.{Einval, Enametoolong}
use Rattle.ufs_model.proofs.Facts.Pieces.{components_of, components_plain}

-- neither refuses
pub first_none : (a b : Option Errno) → first_of a b ≡ None → (a ≡ None) × (b ≡ None)
first_none None b e = (refl, e)
first_none (Some f) b e = cc

pub passed : (test : Bool) (e : Errno) → refused_if test e ≡ None → test ≡ false
passed true e h = cc
passed false e h = refl

-- what is there or isn't
pub missing : {A : Type 0} (o : Option A) → is_some o ≡ false → o ≡ None
missing None e = refl
missing (Some x) e = cc

pub some_there : {A : Type 0} (o : Option A) → is_none o ≡ false → is_some o ≡ true
some_there None e = cc
some_there (Some x) e = refl

-- ---- a path that isn't refused

pub names_allowed : (path : List ℕ) → text_refusal path ≡ None → components_refusal (components path) ≡ None
names_allowed [] e = cc
names_allowed (b ∷ bs) e =
    let one = first_none (refused_if (not (eqb b 47)) Einval) _ e in
    let two = first_none (refused_if (ltb 1023 (length (b ∷ bs))) Enametoolong) _ one.1 in
    (first_none (components_refusal (components (b ∷ bs))) _ two.1).0

pub names_of_whole : (path : List ℕ) → components (whole_of path) ≡ components path
names_of_whole path = components_of (components path) (components_plain path)

pub whole_is : (path : List ℕ) → text_refusal path ≡ None → IsWhole (whole_of path)
whole_is path e = record {
  spelled = ap whole_path (names_of_whole path);
  allowed = ap components_refusal (names_of_whole path) ∙ names_allowed path e;
}

-- ---- names that may stand in a path

pub allowed_append : (xs ys : List (List ℕ)) → components_refusal xs ≡ None → components_refusal ys ≡ None → components_refusal (xs ++ ys) ≡ None
allowed_append [] ys h k = k
allowed_append (x ∷ xs) ys h k =
    let both = first_none _ (components_refusal xs) h in
    ap (λ (o : Option Errno). first_of o (components_refusal (xs ++ ys))) both.0 ∙ allowed_append xs ys both.1 k

pub allowed_back : (xs ys : List (List ℕ)) → components_refusal (xs ++ ys) ≡ None → components_refusal ys ≡ None
allowed_back [] ys h = h
allowed_back (x ∷ xs) ys h = allowed_back xs ys (first_none _ (components_refusal (xs ++ ys)) h).1
