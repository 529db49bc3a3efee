-- Names with a slash before each.
use Rattle.std.proofs.Common.{◌≡◌, ℕ, List, [], ◌∷◌, ◌++◌, ap, sym, refl, ◌∙◌, append_assoc}
use Rattle.std.proofs.lemmas.List.{append-nil}
use Rattle.ufs_model.specs.Paths.{whole_path}
use Rattle.ufs_path.specs.Texts.{joined}

-- the whole path of some names
pub whole_path-joined : (name : List ℕ) (names : List (List ℕ)) → whole_path (name ∷ names) ≡ joined (name ∷ names)
whole_path-joined name [] = sym (append-nil (47 ∷ name))
whole_path-joined name (next ∷ names) = ap (λ rest. (47 ∷ name) ++ rest) (whole_path-joined next names)

pub joined-append : (xs ys : List (List ℕ)) → joined (xs ++ ys) ≡ joined xs ++ joined ys
joined-append [] ys = refl
joined-append (x ∷ xs) ys = ap (λ rest. (47 ∷ x) ++ rest) (joined-append xs ys) ∙ sym (append_assoc (47 ∷ x) (joined xs) (joined ys))
