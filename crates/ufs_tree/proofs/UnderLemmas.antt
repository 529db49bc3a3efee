-- What lies at and below a directory, by the text, and what a new name makes of it.
use Rattle.std.proofs.Common.{◌≡◌, ℕ, ◌≤◌, List, [], ◌∷◌, ◌++◌, Bool, true, false, ◌||◌, eqb, length, take, drop, Option, Some, None, ap, sym, refl, subst, ◌∙◌, arith, append_assoc, take-append-drop}
use Rattle.std.proofs.lemmas.Bool.{eqb-true}
use Rattle.std.proofs.lemmas.List.{append-nil}
use Rattle.std.proofs.Math.Bool.{or-true}
use Rattle.std.proofs.Math.Seq.{drop-append_seam}
use Rattle.std.specs.Prelude.{is_some}
use Rattle.std.specs.Ordering.{is_eq}
use Rattle.std.specs.Str.{bytes_eq}
use Rattle.std.specs.FinMap as map
use Rattle.ufs_model.specs.declared.data.Node.{Node}
use Rattle.ufs_model.specs.Directories.{is_below, has_entries}
use Rattle.ufs_model.specs.Paths.{components, whole_path, components_refusal, IsWhole}
use Rattle.ufs_model.specs.PosixTree.{Paths, IsNamespace, stands, has_dir, root}
use Rattle.ufs_model.proofs.Facts.Allowed.{allowed_append, allowed_back}
use Rattle.ufs_model.proofs.Facts.Pieces.{ArePlain, components_cut, components_plain, names_below, same_bytes, bytes_same, is_below_from}
use Rattle.ufs_model.proofs.Facts.Walks.{entry_above}
use Rattle.ufs_path.specs.Texts.{joined}
use Rattle.ufs_path.proofs.Facts.Joined.{whole_path-joined, joined-append}
use Rattle.ufs_tree.proofs.PathLemmas.{whole_joined}
use Rattle.ufs_tree.proofs.NameLemmas.{cmp-front}
use Rattle.ufs_tree.proofs.MovedLemmas.{ties}

-- ---- at or below, by the text

abbrev pub is_under : List ℕ → List ℕ → Bool
is_under dir q = bytes_eq q dir || is_below dir q

-- empty, or a slash and more
abbrev pub is_tail : List ℕ → Bool
is_tail [] = true
is_tail (b ∷ s) = eqb b 47

pub under-append : (d s : List ℕ) → is_tail s ≡ true → is_under d (d ++ s) ≡ true
under-append d [] e = ap (λ q. is_under d q) (append-nil d) ∙ ap (λ b. b || is_below d d) (bytes_same d d refl)
under-append d (b ∷ r) e =
    ap (λ c. is_under d (d ++ c ∷ r)) (eqb-true b 47 e) ∙ ap (λ t. bytes_eq (d ++ 47 ∷ r) d || t) (is_below_from d r) ∙ or-true (bytes_eq (d ++ 47 ∷ r) d)

-- what is below a directory is it, a slash and more
pub below_is : (d q : List ℕ) → is_below d q ≡ true → q ≡ d ++ 47 ∷ drop (length (d ++ 47 ∷ [])) q
below_is d q e =
    let n = length (d ++ 47 ∷ []) in
    sym (take-append-drop n q) ∙ ap (λ f. f ++ drop n q) (same_bytes (take n q) (d ++ 47 ∷ []) e) ∙ append_assoc d (47 ∷ []) (drop n q)

pub record IsUnder (d q : List ℕ) : Type 0 where
  pub is : q ≡ d ++ drop (length d) q
  pub tail : is_tail (drop (length d) q) ≡ true

of_append : (d q s : List ℕ) → q ≡ d ++ s → is_tail s ≡ true → IsUnder d q
of_append d q s is tail =
    let rest : drop (length d) q ≡ s = ap (drop (length d)) is ∙ drop-append_seam d s in
    record { is = is ∙ ap (λ t. d ++ t) (sym rest); tail = ap is_tail rest ∙ tail }

pub under_is : (d q : List ℕ) → is_under d q ≡ true → IsUnder d q
under_is d q e = by (bytes_eq q d) refl e
  where
    by : (b : Bool) → bytes_eq q d ≡ b → (b || is_below d q) ≡ true → IsUnder d q
    by true same e = of_append d q [] (same_bytes q d same ∙ sym (append-nil d)) refl
    by false same e = of_append d q (47 ∷ drop (length (d ++ 47 ∷ [])) q) (below_is d q e) refl

pub ties-front : (f a b : List ℕ) → ties (f ++ a) (f ++ b) ≡ ties a b
ties-front f a b = ap is_eq (cmp-front f a b)

-- ---- whole paths with a new beginning

whole_path-some : (xs ys : List (List ℕ)) → 1 ≤ length xs → whole_path (xs ++ ys) ≡ joined xs ++ joined ys
whole_path-some [] ys h = absurd (omega arith)
whole_path-some (x ∷ xs) ys h = whole_path-joined x (xs ++ ys) ∙ joined-append (x ∷ xs) ys

module _ (d : List ℕ) (whole : IsWhole d) (other : d ≡ root → ⊥) where
  as_joined : (d ≡ joined (components d)) × (1 ≤ length (components d))
  as_joined = whole_joined d whole.spelled other (components d) refl

  -- what follows the directory in a whole path
  pub rest_joined : (r : List ℕ) → IsWhole (d ++ 47 ∷ r) → joined (components r) ≡ 47 ∷ r
  rest_joined r w =
      let parts = ap whole_path (components_cut d r) ∙ whole_path-some (components d) (components r) as_joined.1 in
      let all : d ++ joined (components r) ≡ d ++ 47 ∷ r = ap (λ f. f ++ joined (components r)) as_joined.0 ∙ sym parts ∙ w.spelled in
      sym (drop-append_seam d (joined (components r))) ∙ ap (drop (length d)) all ∙ drop-append_seam d (47 ∷ r)

  pub rest_allowed : (r : List ℕ) → IsWhole (d ++ 47 ∷ r) → components_refusal (components r) ≡ None
  rest_allowed r w = allowed_back (components d) (components r) (sym (ap components_refusal (components_cut d r)) ∙ w.allowed)

  pub with_rest : (r : List ℕ) → joined (components r) ≡ 47 ∷ r → components_refusal (components r) ≡ None → IsWhole (d ++ 47 ∷ r)
  with_rest r is allowed = record {
    spelled = ap whole_path (components_cut d r) ∙ whole_path-some (components d) (components r) as_joined.1 ∙ (λ i. sym as_joined.0 i ++ is i);
    allowed = ap components_refusal (components_cut d r) ∙ allowed_append (components d) (components r) whole.allowed allowed;
  }

-- ---- nothing is below a directory without entries

-- by the names of the directory
none_among : (m : Paths) (to p : List ℕ) (ns : List (List ℕ)) → IsNamespace (stands m) (has_dir m) → ArePlain ns → to ≡ whole_path ns → (to ≡ root → ⊥) → has_entries m to ≡ false → is_below to p ≡ true → stands m p ≡ true → ⊥
none_among m to p [] space plain is other empty below there = other is
none_among m to p (x ∷ xs) space plain is other empty below there =
    let names = components p in
    let at : p ≡ whole_path names = sym (space.whole p there).spelled in
    let more = names_below x xs names plain (components_plain p) ((λ i. is_below (sym is i) (sym at i)) ∙ below) in
    let plain' : ArePlain ((x ∷ xs) ++ more.0 ∷ more.1) = subst ArePlain more.2 (components_plain p) in
    let some = entry_above m space (x ∷ xs) more.0 more.1 plain' (ap (stands m) (sym (at ∙ ap whole_path more.2)) ∙ there) in
    let no : true ≡ false = sym some ∙ ap (has_entries m) (sym is) ∙ empty in
    cc

pub none_below : (m : Paths) (to : List ℕ) → IsNamespace (stands m) (has_dir m) → IsWhole to → (to ≡ root → ⊥) → has_entries m to ≡ false → (p : List ℕ) → is_below to p ≡ true → map.get m p ≡ None
none_below m to space whole other empty p below = by (map.get m p) refl
  where
    by : (o : Option Node) → map.get m p ≡ o → o ≡ None
    by None is = refl
    by (Some v) is = absurd (none_among m to p (components to) space (components_plain to) (sym whole.spelled) other empty below (ap is_some is))
