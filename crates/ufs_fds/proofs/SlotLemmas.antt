-- The slots of a table, seen as a map.
use Rattle.std.proofs.Common.{◌≡◌, ◌≢◌, ℕ, zero, suc, ◌+◌, ◌-◌, ◌*◌, ◌^◌, ◌%◌, ◌<◌, ◌≤◌, List, [], ◌∷◌, true, false, cond, leb, length, get_or, set, replicate, Option, Some, None, is_some, IsSome, ap, sym, refl, ◌∙◌, inl, inr, arith, bit_or, bit_and, length-set, get_or-set_same, get_or-set_other}
use Rattle.std.proofs.lemmas.Bool.{cases_eq, cases_lt, cond-true, cond-false, le-leb, lt-leb, eq-eqb, ne_eqb}
use Rattle.std.proofs.lemmas.Nat.Bits.{bit_at_set_same, bit_at_set_other, bit_at_clear_same, bit_at_clear_other, bit_at-zero}
use Rattle.std.specs.Int.{bit_at, bit_not, w64}
use Rattle.std.specs.Ordering.{nat_cmp, eq_by_cmp}
use Rattle.std.specs.Cmp.{nat_cmp_total, unsigned_tied}
use Rattle.std.specs.FinMap as map
use Rattle.std.specs.FinMap.{find, get-from_entries, get-insert, get-remove, get-empty, same_map, nat_cmp-IsAntisymmetric}
use Rattle.ufs_model.specs.declared.data.Desc.{Desc}
use Rattle.ufs_fds.specs.Slots.{entries_from, table_of, AreMarked}

-- what stands at a number, where the first slot has the number fd
abbrev slot_at : ℕ → List (Option Desc) → ℕ → Option Desc
slot_at fd slots q = cond (leb fd q) (get_or slots (q - fd) None) None

under : (fd q : ℕ) (slots : List (Option Desc)) → q < fd → slot_at fd slots q ≡ None
under fd q slots h = cond-false _ _ _ (lt-leb fd q h)

over : (fd q : ℕ) (slots : List (Option Desc)) → fd ≤ q → slot_at fd slots q ≡ get_or slots (q - fd) None
over fd q slots h = cond-true _ _ _ (le-leb fd q h)

apart : (fd q : ℕ) → (q ≡ fd → ⊥) → eq_by_cmp nat_cmp q fd ≡ false
apart fd q h = unsigned_tied q fd ∙ ne_eqb q fd h

same : (fd q : ℕ) → q ≡ fd → eq_by_cmp nat_cmp q fd ≡ true
same fd q h = unsigned_tied q fd ∙ eq-eqb q fd h

-- the slots after the first
later : (fd q : ℕ) (o : Option Desc) (slots : List (Option Desc)) → (q ≡ fd → ⊥) → slot_at (fd + 1) slots q ≡ slot_at fd (o ∷ slots) q
later fd q o slots ne =
    elim (cases_lt q fd) [
      | inl less ↦ under (fd + 1) q slots (omega arith) ∙ sym (under fd q (o ∷ slots) less)
      | inr most ↦
          let place : q - fd ≡ suc (q - (fd + 1)) = omega arith in
          over (fd + 1) q slots (omega arith) ∙ sym (over fd q (o ∷ slots) most ∙ ap (λ k. get_or (o ∷ slots) k None) place)
    ]

first : (fd q : ℕ) (o : Option Desc) (slots : List (Option Desc)) → q ≡ fd → slot_at fd (o ∷ slots) q ≡ o
first fd q o slots e =
    let place : q - fd ≡ 0 = omega arith in
    over fd q (o ∷ slots) (omega arith) ∙ ap (λ k. get_or (o ∷ slots) k None) place

find-entries_from : (fd q : ℕ) (slots : List (Option Desc)) → find nat_cmp q (entries_from fd slots) ≡ slot_at fd slots q
find-entries_from fd q [] = elim (leb fd q) as (λ b. ◌≡◌ {A = Option Desc} None (cond b None None)) [ true ↦ refl | false ↦ refl ]
find-entries_from fd q (None ∷ slots) =
    let rest = find-entries_from (fd + 1) q slots in
    elim (cases_eq q fd) [
      | inl e ↦ rest ∙ under (fd + 1) q slots (omega arith) ∙ sym (first fd q None slots e)
      | inr ne ↦ rest ∙ later fd q None slots ne
    ]
find-entries_from fd q (Some desc ∷ slots) =
    let rest = find-entries_from (fd + 1) q slots in
    elim (cases_eq q fd) [
      | inl e ↦ cond-true _ _ _ (same fd q e) ∙ sym (first fd q (Some desc) slots e)
      | inr ne ↦ cond-false _ _ _ (apart fd q ne) ∙ rest ∙ later fd q (Some desc) slots ne
    ]

pub get-table_of : (slots : List (Option Desc)) (q : ℕ) → map.get (table_of slots) q ≡ slot_at 3 slots q
unfolding table_of
get-table_of slots q = get-from_entries nat_cmp_total (entries_from 3 slots) q ∙ find-entries_from 3 q slots

pub get-below : (slots : List (Option Desc)) (q : ℕ) → q < 3 → map.get (table_of slots) q ≡ None
get-below slots q h = get-table_of slots q ∙ under 3 q slots h

pub get-inside : (slots : List (Option Desc)) (q : ℕ) → 3 ≤ q → map.get (table_of slots) q ≡ get_or slots (q - 3) None
get-inside slots q h = get-table_of slots q ∙ over 3 q slots h

past : (slots : List (Option Desc)) (k : ℕ) → length slots ≤ k → get_or slots k None ≡ None
past [] k h = refl
past (o ∷ slots) zero h = absurd (omega arith)
past (o ∷ slots) (suc k) h = past slots k (omega arith)

pub get-above : (slots : List (Option Desc)) (q : ℕ) → length slots ≡ 64 → 66 < q → map.get (table_of slots) q ≡ None
get-above slots q e h = get-inside slots q (omega arith) ∙ past slots (q - 3) (omega arith)

some_none : (o : Option Desc) → o ≡ None → IsSome o → ⊥
some_none None e h = cc
some_none (Some d) e h = cc

pub in_range : (slots : List (Option Desc)) → length slots ≡ 64 → (q : ℕ) → IsSome (map.get (table_of slots) q) → (3 ≤ q) × (q ≤ 66)
in_range slots e q h = (
  elim (cases_lt q 3) [ inl less ↦ absurd (some_none _ (get-below slots q less) h) | inr most ↦ most ],
  elim (cases_lt 66 q) [ inl less ↦ absurd (some_none _ (get-above slots q e less) h) | inr most ↦ most ],
)

-- ---- writes

slot-set : (slots : List (Option Desc)) (q k : ℕ) (o : Option Desc) → k < length slots → slot_at 3 (set slots k o) q ≡ cond (eq_by_cmp nat_cmp q (k + 3)) o (slot_at 3 slots q)
slot-set slots q k o h =
    elim (cases_eq q (k + 3)) [
      | inl e ↦
          let place : q - 3 ≡ k = omega arith in
          over 3 q (set slots k o) (omega arith) ∙ ap (λ i. get_or (set slots k o) i None) place ∙ get_or-set_same slots k o None h ∙ sym (cond-true _ _ _ (same (k + 3) q e))
      | inr ne ↦ other ne ∙ sym (cond-false _ _ _ (apart (k + 3) q ne))
    ]
  where
    other : (q ≡ k + 3 → ⊥) → slot_at 3 (set slots k o) q ≡ slot_at 3 slots q
    other ne =
        elim (cases_lt q 3) [
          | inl less ↦ under 3 q (set slots k o) less ∙ sym (under 3 q slots less)
          | inr most ↦
              let elsewhere : q - 3 ≢ k = λ e. ne (omega arith) in
              over 3 q (set slots k o) most ∙ get_or-set_other slots k (q - 3) o None elsewhere ∙ sym (over 3 q slots most)
        ]

pub table_of-set_Some : (slots : List (Option Desc)) (k fd : ℕ) (desc : Desc) → k < length slots → k + 3 ≡ fd → table_of (set slots k (Some desc)) ≡ map.insert (table_of slots) fd desc
table_of-set_Some slots k fd desc h e =
    same_map nat_cmp_total nat_cmp-IsAntisymmetric _ _ (λ q.
    get-table_of (set slots k (Some desc)) q ∙ slot-set slots q k (Some desc) h
    ∙ ap (λ n. cond (eq_by_cmp nat_cmp q n) (Some desc) (slot_at 3 slots q)) e
    ∙ sym (get-insert nat_cmp_total (table_of slots) fd desc q ∙ ap (cond (eq_by_cmp nat_cmp q fd) (Some desc)) (get-table_of slots q)))

pub table_of-set_None : (slots : List (Option Desc)) (k fd : ℕ) → k < length slots → k + 3 ≡ fd → table_of (set slots k None) ≡ map.remove (table_of slots) fd
table_of-set_None slots k fd h e =
    same_map nat_cmp_total nat_cmp-IsAntisymmetric _ _ (λ q.
    get-table_of (set slots k None) q ∙ slot-set slots q k None h
    ∙ ap (λ n. cond (eq_by_cmp nat_cmp q n) None (slot_at 3 slots q)) e
    ∙ sym (get-remove nat_cmp_total (table_of slots) fd q ∙ ap (cond (eq_by_cmp nat_cmp q fd) None) (get-table_of slots q)))

-- ---- marks

pub AreMarked-set : (used : ℕ) (slots : List (Option Desc)) (k : ℕ) (desc : Desc) → AreMarked used slots → k < 64 → AreMarked (bit_or used (1 * 2 ^ k % 2 ^ 64)) (set slots k (Some desc))
AreMarked-set used slots k desc m h =
    let inside : k < length slots = omega (arith, m.count) in record {
      count = length-set slots k (Some desc) ∙ m.count;
      bits = λ i below. elim (cases_eq i k) [
        | inl e ↦ ap (bit_at (bit_or used (1 * 2 ^ k % 2 ^ 64))) e ∙ bit_at_set_same w64 used k h
            ∙ sym (ap (λ j. cond (is_some (get_or (set slots k (Some desc)) j None)) 1 0) e ∙ ap (λ (o : Option Desc). cond (is_some o) 1 0) (get_or-set_same slots k (Some desc) None inside))
        | inr ne ↦ bit_at_set_other w64 used k h i ne ∙ m.bits i below
            ∙ sym (ap (λ (o : Option Desc). cond (is_some o) 1 0) (get_or-set_other slots k i (Some desc) None ne))
      ];
    }

pub AreMarked-clear : (used : ℕ) (slots : List (Option Desc)) (k : ℕ) → AreMarked used slots → k < 64 → AreMarked (bit_and used (bit_not w64 (1 * 2 ^ k % 2 ^ 64))) (set slots k None)
AreMarked-clear used slots k m h =
    let inside : k < length slots = omega (arith, m.count) in record {
      count = length-set slots k None ∙ m.count;
      bits = λ i below. elim (cases_eq i k) [
        | inl e ↦ ap (bit_at (bit_and used (bit_not w64 (1 * 2 ^ k % 2 ^ 64)))) e ∙ bit_at_clear_same w64 used k h
            ∙ sym (ap (λ j. cond (is_some (get_or (set slots k None) j None)) 1 0) e ∙ ap (λ (o : Option Desc). cond (is_some o) 1 0) (get_or-set_same slots k None None inside))
        | inr ne ↦ bit_at_clear_other w64 used k h i below ne ∙ m.bits i below
            ∙ sym (ap (λ (o : Option Desc). cond (is_some o) 1 0) (get_or-set_other slots k i None None ne))
      ];
    }

free_slots : (n k : ℕ) → let free : Option Desc = None in get_or (replicate n free) k None ≡ None
free_slots zero k = refl
free_slots (suc n) zero = refl
free_slots (suc n) (suc k) = free_slots n k

pub AreMarked-new : (slots : List (Option Desc)) → slots ≡ replicate 64 None → AreMarked 0 slots
AreMarked-new slots e = record {
  count = ap length e;
  bits = λ k below. bit_at-zero k ∙ sym (ap (λ (o : Option Desc). cond (is_some o) 1 0) (ap (λ s. get_or s k None) e ∙ free_slots 64 k));
}

pub table_of-new : (slots : List (Option Desc)) → slots ≡ replicate 64 None → table_of slots ≡ map.empty
table_of-new slots e =
    same_map nat_cmp_total nat_cmp-IsAntisymmetric _ _ (λ q. get-table_of slots q ∙ free q ∙ sym (get-empty nat_cmp q))
  where
    free : (q : ℕ) → slot_at 3 slots q ≡ None
    free q = elim (cases_lt q 3) [ inl less ↦ under 3 q slots less | inr most ↦ over 3 q slots most ∙ ap (λ s. get_or s (q - 3) None) e ∙ free_slots 64 (q - 3) ]
