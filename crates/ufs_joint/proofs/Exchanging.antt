-- Files that stand in the place of others, among all.
use Rattle.std.proofs.Common.{◌≡◌, ◌≢◌, ℕ, ◌+◌, ◌≤◌, ◌⊎◌, inl, inr, Bool, true, false, cond, eqb, ne_eqb, leb, le-leb, List, [], ◌∷◌, Option, Some, None, sym, refl, ap, ◌∙◌, arith}
use native.Mathlib.Decide.{dec_le}
use Rattle.std.specs.Cmp.{nat_cmp_total}
use Rattle.std.specs.Ordering.{nat_cmp}
use Rattle.std.specs.FinMap as fin
use Rattle.std.specs.FinMap.{get-retain_keys, nat_cmp-IsAntisymmetric}
use Rattle.ufs_files.proofs.MapLemmas.{one_or_apart}
use Rattle.ufs_model.proofs.Facts.Lookups.{inserted_else, inserted_here}
use Rattle.ufs_hand_laws.specs.Owned.{count, find, one, present}
use Rattle.ufs_hand_laws.proofs.Keys.{alike, itself}
use Rattle.ufs_hand_laws.proofs.Owning.{present_find}
use Rattle.ufs_joint.specs.Cells.{FileCell}

module _ {A : Type 0} (of : FileCell → A) where
  -- each of these, under its number
  put_all : List (ℕ × FileCell) → fin.FinMap nat_cmp A → fin.FinMap nat_cmp A
  put_all [] m = m
  put_all (c ∷ cs) m = fin.insert (put_all cs m) c.0 (of c.1)

  -- none of these has the number
  is_off : List (ℕ × FileCell) → ℕ → Bool
  is_off old k = cond (leb 1 (count eqb k old)) false true

  pub exchanged : (old new : List (ℕ × FileCell)) → fin.FinMap nat_cmp A → fin.FinMap nat_cmp A
  exchanged old new m = put_all new (fin.retain_keys m (is_off old))

  module _ (shown : Option FileCell → Option A) (shown_some : (c : FileCell) → shown (Some c) ≡ Some (of c)) (shown_none : shown None ≡ None) where
    get_put : (new : List (ℕ × FileCell)) (m : fin.FinMap nat_cmp A) (k : ℕ) → fin.get (put_all new m) k ≡ cond (leb 1 (count eqb k new)) (shown (find eqb k new)) (fin.get m k)
    unfolding put_all
    get_put [] m k = refl
    get_put (c ∷ cs) m k = by (get_put cs m k) (one_or_apart k c.0)
      where
        by : fin.get (put_all cs m) k ≡ cond (leb 1 (count eqb k cs)) (shown (find eqb k cs)) (fin.get m k) → (k ≡ c.0) ⊎ (k ≢ c.0) → fin.get (put_all (c ∷ cs) m) k ≡ cond (leb 1 (count eqb k (c ∷ cs))) (shown (find eqb k (c ∷ cs))) (fin.get m k)
        by others (inl same) =
            let b : eqb k c.0 ≡ true = ap (eqb k) (sym same) ∙ itself k in
            let some : leb 1 (one true + count eqb k cs) ≡ true = le-leb 1 (one true + count eqb k cs) (omega arith) in
            ap (fin.get (put_all (c ∷ cs) m)) same ∙ inserted_here nat_cmp_total nat_cmp-IsAntisymmetric (put_all cs m) c.0 (of c.1) ∙ sym (shown_some c.1)
            ∙ sym ((λ i. cond (leb 1 (one (b i) + count eqb k cs)) (shown (cond (b i) (Some c.1) (find eqb k cs))) (fin.get m k)) ∙ ap (λ z. cond z (shown (Some c.1)) (fin.get m k)) some)
        by others (inr not) =
            let b : eqb k c.0 ≡ false = ne_eqb k c.0 not in
            let none : one false + count eqb k cs ≡ count eqb k cs = omega arith in
            inserted_else nat_cmp_total nat_cmp-IsAntisymmetric (put_all cs m) c.0 (of c.1) k not ∙ others
            ∙ sym ((λ i. cond (leb 1 (one (b i) + count eqb k cs)) (shown (cond (b i) (Some c.1) (find eqb k cs))) (fin.get m k)) ∙ ap (λ z. cond (leb 1 z) (shown (find eqb k cs)) (fin.get m k)) none)

    get_out : (old : List (ℕ × FileCell)) (m : fin.FinMap nat_cmp A) (k : ℕ) → fin.get (fin.retain_keys m (is_off old)) k ≡ cond (is_off old k) (fin.get m k) None
    unfolding is_off
    get_out old m k = get-retain_keys m (is_off old) k (λ x e. ap (is_off old) (sym (nat_cmp-IsAntisymmetric k x e)))

    not_found : (new : List (ℕ × FileCell)) (k : ℕ) → count eqb k new ≡ 0 → find eqb k new ≡ None
    not_found new k none = by (find eqb k new) (present_find eqb itself alike k new (omega (arith, none)) ∙ none)
      where
        by : (o : Option FileCell) → present o ≡ 0 → o ≡ None
        by None e = refl
        by (Some c) e = absurd (omega (arith, e))

    pub get_exchanged : (old new : List (ℕ × FileCell)) (m : fin.FinMap nat_cmp A) (k : ℕ) → fin.get (exchanged old new m) k ≡ cond (leb 1 (count eqb k old + count eqb k new)) (shown (find eqb k new)) (fin.get m k)
    unfolding exchanged is_off
    get_exchanged old new m k = by (dec_le 1 (count eqb k new)) (dec_le 1 (count eqb k old))
      where
        first : fin.get (exchanged old new m) k ≡ cond (leb 1 (count eqb k new)) (shown (find eqb k new)) (cond (cond (leb 1 (count eqb k old)) false true) (fin.get m k) None)
        first = get_put new (fin.retain_keys m (is_off old)) k ∙ ap (cond (leb 1 (count eqb k new)) (shown (find eqb k new))) (get_out old m k)

        by : Dec (1 ≤ count eqb k new) → Dec (1 ≤ count eqb k old) → fin.get (exchanged old new m) k ≡ cond (leb 1 (count eqb k old + count eqb k new)) (shown (find eqb k new)) (fin.get m k)
        by (yes l) other =
            first ∙ ap (λ z. cond z (shown (find eqb k new)) (cond (cond (leb 1 (count eqb k old)) false true) (fin.get m k) None)) (le-leb 1 (count eqb k new) l)
            ∙ sym (ap (λ z. cond z (shown (find eqb k new)) (fin.get m k)) (le-leb 1 (count eqb k old + count eqb k new) (omega (arith, l))))
        by (no l) (yes h) =
            let none : count eqb k new ≡ 0 = omega (arith, l) in
            first ∙ ap (λ z. cond (leb 1 z) (shown (find eqb k new)) (cond (cond (leb 1 (count eqb k old)) false true) (fin.get m k) None)) none
            ∙ ap (λ z. cond (cond z false true) (fin.get m k) None) (le-leb 1 (count eqb k old) h)
            ∙ sym (ap (λ z. cond z (shown (find eqb k new)) (fin.get m k)) (le-leb 1 (count eqb k old + count eqb k new) (omega (arith, h))) ∙ ap shown (not_found new k none) ∙ shown_none)
        by (no l) (no h) =
            let none : count eqb k new ≡ 0 = omega (arith, l) in
            let off : count eqb k old ≡ 0 = omega (arith, h) in
            let neither : count eqb k old + count eqb k new ≡ 0 = omega (arith, none, off) in
            first ∙ ap (λ z. cond (leb 1 z) (shown (find eqb k new)) (cond (cond (leb 1 (count eqb k old)) false true) (fin.get m k) None)) none
            ∙ ap (λ z. cond (cond (leb 1 z) false true) (fin.get m k) None) off ∙ sym (ap (λ z. cond (leb 1 z) (shown (find eqb k new)) (fin.get m k)) neither)
