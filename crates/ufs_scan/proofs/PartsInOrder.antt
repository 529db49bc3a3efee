-- The record sectors of a transaction, where all stand in order.
use Rattle.std.proofs.Common.{◌≡◌, inl, inr, ℕ, zero, suc, ◌+◌, ◌*◌, ◌<◌, ◌≤◌, List, [], ◌∷◌, ◌++◌, Bool, true, false, ◌&&◌, get_or, refl, ap, sym, ◌∙◌, arith}
use Rattle.std.specs.Prelude.{if◌then◌else◌, ◌==◌, not, nat_lt, map, flat_map, option_map, Option, Some, None}
use Rattle.std.specs.List.{All, filter, filter_map, cons_option, range_with_len}
use Rattle.std.specs.List.Sorted.{IsNonDecreasingBy, IsStableByKey}
use Rattle.std.specs.Ordering.{nat_cmp}
use Rattle.std.proofs.lemmas.Bool.{cases_eq, cases_lt, eq-eqb, ne_eqb, lt-ltb, le-ltb}
use Rattle.std.proofs.lemmas.Grind.{flat_map-append}
use Rattle.std.proofs.lemmas.List.{append-nil}
use Rattle.std.proofs.lemmas.List.Elements.{All-head, All-tail, filter-append}
use Rattle.ufs_image.specs.Journal.{FoundSector, Transaction, has_records, has_commit, commit_in, records_before, transaction_of, transactions}
use Rattle.ufs_layout.specs.Words.{rising_by}
use Rattle.ufs_found.specs.Sorted.{place_of, number_of, is_between}
use Rattle.ufs_scan.specs.Gathered.{is_part, placed_in, placed_at, placed_below, transaction_in}
use Rattle.ufs_found.proofs.Noted.{range_more}
use Rattle.ufs_found.proofs.Buckets.{at, under, one_more, same_part, flat_of, same_range, filter_both, filter_none}
use Rattle.ufs_scan.proofs.Stable.{rising_map}

pub filter_alike : {X : Type 0} (p q : X → Bool) (xs : List X) → All (λ x. p x ≡ q x) xs → filter p xs ≡ filter q xs
filter_alike p q [] every = refl
filter_alike p q (x ∷ xs) every =
    λ i. if All-head (λ x. p x ≡ q x) x xs every i then x ∷ filter_alike p q xs (All-tail (λ x. p x ≡ q x) x xs every) i else filter_alike p q xs (All-tail (λ x. p x ≡ q x) x xs every) i

pub and_swap : (a b : Bool) → (a && b) ≡ (b && a)
and_swap true true = refl
and_swap true false = refl
and_swap false true = refl
and_swap false false = refl

module _ {X : Type 0} (key : X → ℕ) where
  abbrev onward : ℕ → X → Bool
  onward a x = not (nat_lt (key x) a)

  abbrev inside : ℕ → ℕ → X → Bool
  inside a b x = not (nat_lt (key x) a) && nat_lt (key x) b

  at_onward : (a b : ℕ) → a ≤ b → (x : X) → (at key b x && onward a x) ≡ at key b x
  at_onward a b le x = elim (cases_eq (key x) b) [
    | inl same ↦ (λ i. at key b x && not (le-ltb (key x) a (omega (arith, same, le)) i)) ∙ and_swap (at key b x) true
    | inr ne ↦ (λ i. ne_eqb (key x) b ne i && onward a x) ∙ sym (ne_eqb (key x) b ne)
  ]

  inside_more : (a b : ℕ) → a ≤ b → (ys : List X) → IsNonDecreasingBy key ys → filter (inside a (b + 1)) ys ≡ filter (inside a b) ys ++ filter (at key b) ys
  inside_more a b le ys up =
      sym (filter_both (under key (b + 1)) (onward a) (inside a (b + 1)) (λ x. and_swap (under key (b + 1) x) (onward a x)) ys)
      ∙ ap (filter (onward a)) (one_more key b ys up)
      ∙ filter-append (onward a) (filter (under key b) ys) (filter (at key b) ys)
      ∙ (λ i. filter_both (under key b) (onward a) (inside a b) (λ x. and_swap (under key b x) (onward a x)) ys i ++ filter_both (at key b) (onward a) (at key b) (at_onward a b le) ys i)

  none_inside : (a : ℕ) (x : X) → inside a (a + 0) x ≡ false
  none_inside a x = elim (cases_lt (key x) a) [
    | inl lt ↦ (λ i. not (lt-ltb (key x) a lt i) && nat_lt (key x) (a + 0))
    | inr le ↦ (λ i. not (nat_lt (key x) a) && le-ltb (key x) (a + 0) (omega (arith, le)) i) ∙ and_swap (not (nat_lt (key x) a)) false
  ]

  windows : {Y : Type 0} (F : X → List Y) (a c : ℕ) (ys : List X) → IsNonDecreasingBy key ys → flat_map F (filter (inside a (a + c)) ys) ≡ flat_map (λ i. flat_map F (filter (at key (a + i)) ys)) (range_with_len 0 c)
  windows F a zero ys up = ap (flat_map F) (filter_none (inside a (a + 0)) ys (λ k d lt. none_inside a _))
  windows F a (suc c) ys up =
      let one : suc c ≡ c + 1 = omega arith in
      let more : a + suc c ≡ (a + c) + 1 = omega arith in
      let zeroes : 0 + c ≡ c = omega arith in
      ap (λ n. flat_map F (filter (inside a n) ys)) more ∙ ap (flat_map F) (inside_more a (a + c) (omega arith) ys up)
      ∙ flat_map-append F (filter (inside a (a + c)) ys) (filter (at key (a + c)) ys)
      ∙ (λ i. windows F a c ys up i ++ sym (append-nil (flat_map F (filter (at key (a + c)) ys))) i)
      ∙ sym (ap (λ n. flat_map (λ i. flat_map F (filter (at key (a + i)) ys)) (range_with_len 0 n)) one
      ∙ ap (flat_map (λ i. flat_map F (filter (at key (a + i)) ys))) (range_more 0 c)
      ∙ flat_map-append (λ i. flat_map F (filter (at key (a + i)) ys)) (range_with_len 0 c) ((0 + c) ∷ [])
      ∙ ap (λ n. flat_map (λ i. flat_map F (filter (at key (a + i)) ys)) (range_with_len 0 c) ++ (flat_map F (filter (at key (a + n)) ys) ++ [])) zeroes)

-- one place is one transaction and one index
place_is : (txn i : ℕ) → i < 65536 → (f : FoundSector) → f.1.index < 65536 → (place_of f == txn * 65536 + i) ≡ (txn == f.1.txn && f.1.index == i)
place_is txn i low f small = elim (cases_eq txn f.1.txn) [
  | inl same ↦ elim (cases_eq f.1.index i) [
    | inl is ↦ eq-eqb (place_of f) (txn * 65536 + i) (omega (arith, same, is)) ∙ sym (λ k. eq-eqb txn f.1.txn same k && eq-eqb f.1.index i is k)
    | inr ne ↦ ne_eqb (place_of f) (txn * 65536 + i) (λ e. ne (omega (arith, same, e))) ∙ sym (λ k. eq-eqb txn f.1.txn same k && ne_eqb f.1.index i ne k)
  ]
  | inr ne ↦ ne_eqb (place_of f) (txn * 65536 + i) (λ e. ne (omega (arith, low, small, e))) ∙ sym (λ k. ne_eqb txn f.1.txn ne k && f.1.index == i)
]

part_is : (txn i : ℕ) (f : FoundSector) → (has_records f && (txn == f.1.txn && f.1.index == i)) ≡ is_part txn i f
part_is txn i f = by (has_records f) (txn == f.1.txn) (f.1.index == i)
  where
    by : (a b c : Bool) → (a && (b && c)) ≡ (b && (a && c))
    by true true c = refl
    by true false c = refl
    by false true c = refl
    by false false c = refl

pub parts_in : {X : Type 0} (now : X → FoundSector) (all : List FoundSector) (xs ys : List X) → map now xs ≡ filter has_records all → All (λ x. (now x).1.index < 65536) xs
    → IsNonDecreasingBy (λ x. place_of (now x)) ys → IsStableByKey (λ x. place_of (now x)) nat_cmp xs ys
    → (txn count : ℕ) → count < 65536 → flat_map placed_in (filter (is_between (txn * 65536) (txn * 65536 + count)) (map now ys)) ≡ placed_below all txn count
parts_in {X} now all xs ys are small up stable txn count low =
    sym (flat_of now placed_in (is_between (txn * 65536) (txn * 65536 + count)) ys)
    ∙ windows (λ x. place_of (now x)) (λ x. placed_in (now x)) (txn * 65536) count ys up
    ∙ same_range (λ i. flat_map (λ x. placed_in (now x)) (filter (λ x. place_of (now x) == txn * 65536 + i) ys)) (placed_at all txn) 0 count (λ i lt.
    ap (flat_map (λ x. placed_in (now x))) (same_part (λ x. place_of (now x)) xs ys stable (txn * 65536 + i)
    ∙ filter_alike (λ x. place_of (now x) == txn * 65536 + i) (λ x. txn == (now x).1.txn && (now x).1.index == i) xs (λ k d less. place_is txn i (omega (arith, lt, low)) (now (get_or xs k d)) (small k d less)))
    ∙ flat_of now placed_in (λ f. txn == f.1.txn && f.1.index == i) xs
    ∙ ap (λ (l : List FoundSector). flat_map placed_in (filter (λ f. txn == f.1.txn && f.1.index == i) l)) are
    ∙ ap (flat_map placed_in) (filter_both has_records (λ f. txn == f.1.txn && f.1.index == i) (is_part txn i) (part_is txn i) all))

-- ---- transactions

of_commits : (all fs : List FoundSector) → filter_map (transaction_of all) fs ≡ map (transaction_in all) (filter has_commit fs)
of_commits all [] = refl
of_commits all (f ∷ fs) = by (commit_in f.1.content) refl (of_commits all fs)
  where
    by : (o : Option ℕ) → commit_in f.1.content ≡ o → filter_map (transaction_of all) fs ≡ map (transaction_in all) (filter has_commit fs)
        → cons_option (transaction_of all f) (filter_map (transaction_of all) fs) ≡ map (transaction_in all) (if has_commit f then f ∷ filter has_commit fs else filter has_commit fs)
    by None is rest = (λ i. cons_option (option_map (λ number. record { number = number; records = records_before all f }) (is i)) (rest i))
        ∙ sym (ap (λ (o : Option ℕ). map (transaction_in all) (if not (Rattle.std.specs.Prelude.is_none o) then f ∷ filter has_commit fs else filter has_commit fs)) is)
    by (Some m) is rest = (λ i. cons_option (option_map (λ number. record { number = number; records = records_before all f }) (is i)) (rest i))
        ∙ ap (λ (n : ℕ). record { number = n; records = records_before all f } ∷ map (transaction_in all) (filter has_commit fs)) (sym (ap (λ (o : Option ℕ). Rattle.std.specs.Prelude.unwrap_or o 0) is))
        ∙ sym (ap (λ (o : Option ℕ). map (transaction_in all) (if not (Rattle.std.specs.Prelude.is_none o) then f ∷ filter has_commit fs else filter has_commit fs)) is)

pub in_numbers : (all : List FoundSector) → transactions all ≡ map (transaction_in all) (rising_by number_of (filter has_commit all))
in_numbers all = ap (rising_by (λ (t : Transaction). t.number)) (of_commits all all) ∙ rising_map (transaction_in all) (λ (t : Transaction). t.number) (filter has_commit all)
