-- A list of things with keys, a thing at a time: whether the keys rise.
use Rattle.std.proofs.Common.{◌≡◌, ℕ, ◌+◌, ◌-◌, ◌≤◌, ◌<◌, List, ◌∷◌, Bool, length, get_or, drop, true, false, ◌&&◌, ap, sym, ◌∙◌, refl, arith, add-one, length-drop, map}
use Rattle.std.proofs.Math.Seq.{drop-cons}
use Rattle.std.proofs.lemmas.List.{length-map}
use Rattle.std.specs.declared.cmp.Ordering.{Ordering}
use Rattle.std.specs.declared.cmp.Ordering.TheVariants.{Less, Equal, Greater}
use Rattle.std.specs.Ordering.{is_lt, is_ge}
use Rattle.std.specs.FinMap.{is_sorted}
use Rattle.ufs_model.specs.Order.{path_cmp}
use Rattle.ufs_model.proofs.Facts.Orders.{path_total}
use Rattle.ufs_model.proofs.Facts.Rising.{rises, rises_on}

not_less : (r : Ordering) → is_ge r ≡ true → is_lt r ≡ false
not_less Less e = cc
not_less Equal e = refl
not_less Greater e = refl

is_less : (r : Ordering) → is_ge r ≡ false → is_lt r ≡ true
is_less Less e = refl
is_less Equal e = cc
is_less Greater e = cc

-- the things from a place on
pub from_place : {A : Type 0} (es : List A) (i : ℕ) (d : A) → i < length es → drop i es ≡ get_or es i d ∷ drop (i + 1) es
from_place es i d h = drop-cons es i d h ∙ ap (λ k. get_or es i d ∷ drop k es) (sym (add-one i))

module _ {A X : Type 0} (pair : A → List ℕ × X) where
  abbrev rising : List A → Bool
  rising es = is_sorted path_cmp (map pair es)

  abbrev key : List A → ℕ → A → List ℕ
  key es i d = (pair (get_or es i d)).0

  neighbours : (es : List A) (i j : ℕ) (d e : A) → i ≡ j + 1 → i < length es → rising (drop j es) ≡ (is_lt (path_cmp (key es j d) (key es i e)) && rising (drop i es))
  neighbours es i j d e is h =
      let here = from_place es i e h in
      ap rising (from_place es j d (omega arith) ∙ ap (λ k. get_or es j d ∷ drop k es) (sym is) ∙ ap (λ rest. get_or es j d ∷ rest) here)
      ∙ rises_on path_cmp path_total (pair (get_or es j d)) (pair (get_or es i e)) (map pair (drop (i + 1) es))
      ∙ ap (λ rest. is_lt (path_cmp (key es j d) (key es i e)) && rising rest) (sym here)

  module _ (es : List A) (i : ℕ) (d e : A) (first : 1 ≤ i) (below : i < length es) where
    pub rising_more : is_ge (path_cmp (key es (i - 1) d) (key es i e)) ≡ false → rising (drop (i - 1) es) ≡ rising (drop (i + 1 - 1) es)
    rising_more less =
        let next : i ≡ i + 1 - 1 = omega arith in
        neighbours es i (i - 1) d e (omega arith) below ∙ ap (λ b. b && rising (drop i es)) (is_less _ less) ∙ ap (λ k. rising (drop k es)) next

    pub rising_no_more : is_ge (path_cmp (key es (i - 1) d) (key es i e)) ≡ true → rising (drop (i - 1) es) ≡ false
    rising_no_more more = neighbours es i (i - 1) d e (omega arith) below ∙ ap (λ b. b && rising (drop i es)) (not_less _ more)

  pub rising_last : (es : List A) (i : ℕ) → length es ≤ i → rising (drop (i - 1) es) ≡ true
  rising_last es i h = rises path_cmp (map pair (drop (i - 1) es)) (simp (length-map, length-drop) (omega arith))
