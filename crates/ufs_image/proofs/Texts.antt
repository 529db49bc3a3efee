-- Texts of paths, and what they are the text of.
use Rattle.std.proofs.Common.{◌≡◌, ℕ, List, [], ◌∷◌, ◌++◌, Bool, true, length, ap, sym, refl, ◌∙◌, append_assoc}
use Rattle.std.specs.Prelude.{nat_lt, nat_le, not, ◌==◌, ◌&&◌}
use Rattle.std.specs.List.{list_all}
use Rattle.std.proofs.lemmas.Bool.{and_parts}
use Rattle.ufs_image.specs.Damage.{is_plain_name}
use Rattle.ufs_image.specs.Walks.{joined, path_text, is_piece, ArePieces}
use Rattle.ufs_image.proofs.Empty.{both_true}

abbrev has_no_slash : List ℕ → Bool
has_no_slash name = list_all (λ b. not (b == 47)) name

-- empty, or a slash first
abbrev Begins : List ℕ → Type 0
Begins [] = Unit {0}
Begins (b ∷ bs) = b ≡ 47

begins : (names : List (List ℕ)) → Begins (joined names)
begins [] = tt
begins (name ∷ names) = refl

no_slash : (b : ℕ) → not (b == 47) ≡ true → b ≡ 47 → ⊥
no_slash b e is = let no : not (47 == 47) ≡ true = ap (λ k. not (k == 47)) (sym is) ∙ e in cc

-- a text without slashes is cut off at the first slash
cut : (x y r s : List ℕ) → has_no_slash x ≡ true → has_no_slash y ≡ true → Begins r → Begins s → x ++ r ≡ y ++ s → (x ≡ y) × (r ≡ s)
cut [] [] r s hx hy br bs e = (refl, e)
cut [] (b ∷ y) [] s hx hy br bs e = cc
cut [] (b ∷ y) (k ∷ r) s hx hy br bs e = let same : k ≡ b = cc in absurd (no_slash b (and_parts _ _ hy).0 (sym same ∙ br))
cut (a ∷ x) [] r [] hx hy br bs e = cc
cut (a ∷ x) [] r (k ∷ s) hx hy br bs e = let same : a ≡ k = cc in absurd (no_slash a (and_parts _ _ hx).0 (same ∙ bs))
cut (a ∷ x) (b ∷ y) r s hx hy br bs e =
    let same : a ≡ b = cc in
    let rest : x ++ r ≡ y ++ s = cc in
    let more = cut x y r s (and_parts _ _ hx).1 (and_parts _ _ hy).1 br bs rest in
    ((λ i. same i ∷ more.0 i), more.1)

pub same_joined : (xs ys : List (List ℕ)) → ArePieces xs → ArePieces ys → joined xs ≡ joined ys → xs ≡ ys
same_joined [] [] hx hy e = refl
same_joined [] (y ∷ ys) hx hy e = cc
same_joined (x ∷ xs) [] hx hy e = cc
same_joined (x ∷ xs) (y ∷ ys) hx hy e =
    let rest : x ++ joined xs ≡ y ++ joined ys = cc in
    let parts = cut x y (joined xs) (joined ys) (and_parts _ _ hx.0).1 (and_parts _ _ hy.0).1 (begins xs) (begins ys) rest in
    let more = same_joined xs ys hx.1 hy.1 parts.1 in
    (λ i. parts.0 i ∷ more i)

-- the root's text is that of no name
pub no_root : (name : List ℕ) (names : List (List ℕ)) → is_piece name ≡ true → joined (name ∷ names) ≡ 47 ∷ [] → ⊥
no_root [] names is e = cc
no_root (b ∷ name) names is e = cc

pub same_texts : (xs ys : List (List ℕ)) → ArePieces xs → ArePieces ys → path_text xs ≡ path_text ys → xs ≡ ys
same_texts [] [] hx hy e = refl
same_texts [] (y ∷ ys) hx hy e = absurd (no_root y ys hy.0 (sym e))
same_texts (x ∷ xs) [] hx hy e = absurd (no_root x xs hx.0 e)
same_texts (x ∷ xs) (y ∷ ys) hx hy e = same_joined (x ∷ xs) (y ∷ ys) hx hy e

-- a longer path
pub joined-onto : (path name : List ℕ) (names : List (List ℕ)) → (path ++ 47 ∷ name) ++ joined names ≡ path ++ joined (name ∷ names)
joined-onto path name names = append_assoc path (47 ∷ name) (joined names)

-- a plain name with bytes is a piece
not_slashes : (name : List ℕ) → list_all (λ b. nat_le 33 b && (nat_le b 126 && not (b == 47))) name ≡ true → has_no_slash name ≡ true
not_slashes [] e = refl
not_slashes (b ∷ name) e =
    let parts = and_parts _ _ e in
    both_true _ _ (and_parts _ _ (and_parts _ _ parts.0).1).1 (not_slashes name parts.1)

pub plain-piece : (name : List ℕ) → nat_lt 0 (length name) ≡ true → is_plain_name name ≡ true → is_piece name ≡ true
plain-piece name some plain = both_true _ _ some (not_slashes name (and_parts _ _ plain).0)
