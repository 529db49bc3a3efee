-- The lowest free descriptor, by the bits and in a tree.
use Rattle.std.proofs.Common.{◌≡◌, ℕ, zero, suc, ◌+◌, ◌-◌, ◌^◌, ◌<◌, ◌≤◌, List, Bool, true, false, cond, Option, Some, None, is_some, IsSome, ap, sym, refl, ◌∙◌, arith}
use Rattle.std.proofs.lemmas.Bool.{cond-true, cond-false}
use Rattle.std.proofs.lemmas.Nat.Bits.{bit_at-trailing_ones, bit_at_ones}
use Rattle.std.specs.Int.{bit_at, trailing_ones, w64}
use Rattle.std.specs.FinMap as map
use Rattle.ufs_model.specs.PosixTree.{Fds}
use Rattle.ufs_model.specs.Descriptors.{free_from, lowest_free}
use Rattle.ufs_model.specs.declared.data.Desc.{Desc}
use Rattle.ufs_fds.specs.Slots.{table_of, AreMarked}
use Rattle.ufs_fds.specs.Descriptors.{Descs, AreOf}
use Rattle.ufs_fds.proofs.SlotLemmas.{get-inside}

is_set : (b : Bool) → ◌≡◌ {A = ℕ} 1 (cond b 1 0) → b ≡ true
is_set true e = refl
is_set false e = absurd (omega arith)

is_clear : (o : Option Desc) → ◌≡◌ {A = ℕ} 0 (cond (is_some o) 1 0) → o ≡ None
is_clear None e = refl
is_clear (Some d) e = absurd (omega arith)

pub open_at : (used : ℕ) (slots : List (Option Desc)) (q : ℕ) → AreMarked used slots → 3 ≤ q → q ≤ 66 → bit_at used (q - 3) ≡ 1 → IsSome (map.get (table_of slots) q)
open_at used slots q m low high e =
    let below : q - 3 < 64 = omega arith in
    ap is_some (get-inside slots q low) ∙ is_set _ (sym e ∙ m.bits (q - 3) below)

pub free_at : (used : ℕ) (slots : List (Option Desc)) (q : ℕ) → AreMarked used slots → 3 ≤ q → q ≤ 66 → bit_at used (q - 3) ≡ 0 → map.get (table_of slots) q ≡ None
free_at used slots q m low high e =
    let below : q - 3 < 64 = omega arith in
    get-inside slots q low ∙ is_clear _ (sym e ∙ m.bits (q - 3) below)

-- the number of the lowest clear bit
pub record IsLowest (descs : Descs) (fd : ℕ) : Type 0 where
  pub low : 3 ≤ fd
  pub high : fd ≤ 66
  pub free : map.get descs fd ≡ None
  pub lower : (k : ℕ) → 3 ≤ k → k < fd → IsSome (map.get descs k)

pub lowest_by_bits : (used : ℕ) (slots : List (Option Desc)) → AreMarked used slots → used + 1 < 2 ^ 64 → IsLowest (table_of slots) (3 + trailing_ones w64 used)
lowest_by_bits used slots m h =
    let place = bit_at-trailing_ones w64 used h in
    let n = trailing_ones w64 used in
    let within : n < 64 = place.0 in
    let back : (3 + n) - 3 ≡ n = omega arith in record {
      low = omega arith;
      high = omega arith;
      free = free_at used slots (3 + n) m (omega arith) (omega arith) (ap (bit_at used) back ∙ place.1);
      lower = λ k low below. open_at used slots k m low (omega arith) (place.2 (k - 3) (omega arith));
    }

pub all_open : (used : ℕ) (slots : List (Option Desc)) → AreMarked used slots → used ≡ 2 ^ 64 - 1 → (k : ℕ) → 3 ≤ k → k ≤ 66 → IsSome (map.get (table_of slots) k)
all_open used slots m e k low high = open_at used slots k m low high (ap (λ n. bit_at n (k - 3)) e ∙ bit_at_ones 64 (k - 3) (omega arith))

-- ---- in a tree

free_from-Some : (fds : Fds) (client from n count : ℕ) → n < count → map.get fds (client, from + n) ≡ None → ((k : ℕ) → from ≤ k → k < from + n → is_some (map.get fds (client, k)) ≡ true) → free_from fds client from count ≡ Some (from + n)
free_from-Some fds client from n zero below free lower = absurd (omega arith)
free_from-Some fds client from zero (suc count) below free lower =
    let here : from + 0 ≡ from = omega arith in
    cond-false _ _ _ (ap (λ k. is_some (map.get fds (client, k))) (sym here) ∙ ap is_some free) ∙ ap Some (sym here)
free_from-Some fds client from (suc n) (suc count) below free lower =
    let next : from + suc n ≡ from + 1 + n = omega arith in
    cond-true _ _ _ (lower from (omega arith) (omega arith))
    ∙ free_from-Some fds client (from + 1) n count (omega arith) (ap (λ k. map.get fds (client, k)) (sym next) ∙ free) (λ k low high. lower k (omega arith) (omega arith))
    ∙ ap Some (sym next)

free_from-None : (fds : Fds) (client from count : ℕ) → ((k : ℕ) → from ≤ k → k < from + count → is_some (map.get fds (client, k)) ≡ true) → free_from fds client from count ≡ None
free_from-None fds client from zero open' = refl
free_from-None fds client from (suc count) open' =
    cond-true _ _ _ (open' from (omega arith) (omega arith))
    ∙ free_from-None fds client (from + 1) count (λ k low high. open' k (omega arith) (omega arith))

pub lowest_free-Some : (fds : Fds) (client fd : ℕ) (descs : Descs) → AreOf fds client descs → IsLowest descs fd → Some fd ≡ lowest_free fds client
unfolding lowest_free
lowest_free-Some fds client fd descs are lowest =
    let number : 3 + (fd - 3) ≡ fd = omega (arith, lowest.low) in
    sym (free_from-Some fds client 3 (fd - 3) 64 (omega (arith, lowest.low, lowest.high))
    (ap (λ k. map.get fds (client, k)) number ∙ are fd ∙ lowest.free)
    (λ k low high. ap is_some (are k) ∙ lowest.lower k low (omega arith))
    ∙ ap Some number)

pub lowest_free-None : (fds : Fds) (client : ℕ) (descs : Descs) → AreOf fds client descs → ((k : ℕ) → 3 ≤ k → k ≤ 66 → IsSome (map.get descs k)) → None ≡ lowest_free fds client
unfolding lowest_free
lowest_free-None fds client descs are full = sym (free_from-None fds client 3 64 (λ k low high. ap is_some (are k) ∙ full k low (omega arith)))
