-- Loads that stand for the entries of a map.
use Rattle.std.proofs.Common.{◌≡◌, ℕ, List, [], ◌∷◌, map, Bool, true, false, cond, ◌⊎◌, inl, inr, Some, eqb, nat_eq, ap, refl, sym, subst, ◌∙◌}
use Rattle.std.specs.Cmp.{nat_cmp_total, eq_by_cmp_equiv, both_ways}
use Rattle.std.specs.FinMap.{find, is_sorted, nat_cmp-IsAntisymmetric}
use Rattle.std.specs.FinMap.Entries.{below_all}
use Rattle.std.specs.List.{AllByRecursion, IsDistinct}
use Rattle.std.specs.Map.{keys_of, lookup}
use Rattle.std.specs.Ordering.{eq_by_cmp, is_eq, nat_cmp}
use Rattle.std.proofs.lemmas.Bool.{and_parts, eqb-true, eq-eqb}
use Rattle.ufs_load.specs.Laws.{AreOfFiles}
use Rattle.ufs_load.specs.Plan.{IsOneOf}
use Rattle.ufs_model.proofs.Facts.Lookups.{same_some, tied}
use Rattle.ufs_model.proofs.Facts.Rising.{less}
use Rattle.ufs_model.specs.declared.data.Load.{Load}

-- two numbers tie where they are equal
pub ties : (a b : ℕ) → eq_by_cmp nat_cmp a b ≡ eqb a b
ties a b =
    both_ways (eq_by_cmp nat_cmp a b) (eqb a b)
    (λ e. eq-eqb a b (nat_cmp-IsAntisymmetric a b (tied _ e)))
    (λ e. ap (eq_by_cmp nat_cmp a) (sym (eqb-true a b e)) ∙ (eq_by_cmp_equiv nat_cmp_total).refl a)

pub ties_back : (a b : ℕ) → eq_by_cmp nat_cmp a b ≡ eqb b a
ties_back a b = (eq_by_cmp_equiv nat_cmp_total).symm a b ∙ ties b a

module _ {X : Type 0} where
  pub found : (q : ℕ) (es : List (ℕ × X)) → find nat_cmp q es ≡ lookup (nat_eq q) es
  found q [] = refl
  found q (e ∷ es) = ap (λ b. cond b (Some e.1) (find nat_cmp q es)) (ties q e.0) ∙ ap (cond (eqb q e.0) (Some e.1)) (found q es)

  above : (k : ℕ) (es : List (ℕ × X)) → below_all nat_cmp k es ≡ true → AllByRecursion (λ y. nat_eq k y ≡ false) (keys_of es)
  above k [] all = tt
  above k (e ∷ es) all = let both = and_parts _ _ all in (sym (ties k e.0) ∙ ap is_eq (less _ both.0), above k es both.1)

  -- keys that rise are apart
  pub distinct_rising : (es : List (ℕ × X)) → is_sorted nat_cmp es ≡ true → IsDistinct nat_eq (keys_of es)
  unfolding IsDistinct
  distinct_rising [] sorted = tt
  distinct_rising (e ∷ es) sorted = let both = and_parts _ _ sorted in (above e.0 es both.0, distinct_rising es both.1)

module _ {X : Type 0} (worker count : X → ℕ) where
  abbrev pub load_at : ℕ × X → Load
  load_at e = record { file = e.0; worker = worker e.1; count = count e.1 }

  pub files-loads : (es : List (ℕ × X)) → map (λ (l : Load). l.file) (map load_at es) ≡ keys_of es
  files-loads [] = refl
  files-loads (e ∷ es) = ap (λ (ks : List ℕ). e.0 ∷ ks) (files-loads es)

  pub each_once : (es : List (ℕ × X)) → IsDistinct nat_eq (keys_of es) → AreOfFiles (map load_at es)
  each_once es distinct = subst (IsDistinct nat_eq) (sym (files-loads es)) distinct

  pub each_load : (es : List (ℕ × X)) (file : ℕ) (x : X) → find nat_cmp file es ≡ Some x → IsOneOf (map load_at es) (load_at (file, x))
  each_load [] file x is = cc
  each_load (e ∷ es) file x is = by (eq_by_cmp nat_cmp file e.0) refl (each_load es file x) is
    where
      by : (b : Bool) → eq_by_cmp nat_cmp file e.0 ≡ b → (find nat_cmp file es ≡ Some x → IsOneOf (map load_at es) (load_at (file, x))) → cond b (Some e.1) (find nat_cmp file es) ≡ Some x
          → (load_at e ≡ load_at (file, x)) ⊎ IsOneOf (map load_at es) (load_at (file, x))
      by true tie rest here =
          let key : e.0 ≡ file = sym (nat_cmp-IsAntisymmetric file e.0 (tied _ tie)) in
          let value : e.1 ≡ x = same_some e.1 x here in
          inl (λ i. load_at (key i, value i))
      by false tie rest here = inr (rest here)

  -- another file has another number
  apart_from : (a : ℕ) (es : List (ℕ × X)) (l : Load) → AllByRecursion (λ y. nat_eq a y ≡ false) (keys_of es) → IsOneOf (map load_at es) l → nat_eq a l.file ≡ false
  apart_from a [] l all one = absurd one
  apart_from a (e ∷ es) l all (inl is) = ap (λ (k : Load). nat_eq a k.file) (sym is) ∙ all.0
  apart_from a (e ∷ es) l all (inr one) = apart_from a es l all.1 one

  abbrev pub IsAtFile : List (ℕ × X) → Load → Type 0
  IsAtFile es l = (x : X) × (find nat_cmp l.file es ≡ Some x) × (l ≡ load_at (l.file, x))

  pub only_load : (es : List (ℕ × X)) → IsDistinct nat_eq (keys_of es) → (l : Load) → IsOneOf (map load_at es) l → IsAtFile es l
  unfolding IsDistinct
  only_load [] distinct l one = absurd one
  only_load (e ∷ es) distinct l (inl is) = subst (IsAtFile (e ∷ es)) is (e.1, ap (λ b. cond b (Some e.1) (find nat_cmp e.0 es)) ((eq_by_cmp_equiv nat_cmp_total).refl e.0), refl)
  only_load (e ∷ es) distinct l (inr one) =
      let rest = only_load es distinct.1 l one in
      let off : eq_by_cmp nat_cmp l.file e.0 ≡ false = ties_back l.file e.0 ∙ apart_from e.0 es l distinct.0 one in
      (rest.0, ap (λ b. cond b (Some e.1) (find nat_cmp l.file es)) off ∙ rest.1, rest.2)
