-- What stands behind a commit of its transaction is off.
use Rattle.std.proofs.Common.{◌≡◌, ◌≢◌, inl, inr, ℕ, zero, suc, ◌+◌, ◌<◌, ◌≤◌, List, [], ◌∷◌, ◌++◌, Bool, true, false, ◌&&◌, ◌||◌, Option, Some, None, length, get_or, refl, ap, sym, ◌∙◌, subst, arith}
use Rattle.std.specs.Prelude.{if◌then◌else◌, ◌==◌, nat_lt, min}
use Rattle.std.specs.List.{All, find, filter, list_any}
use Rattle.std.specs.List.Sorted.{IsPermutation}
use Rattle.std.specs.Option.{option_map}
use Rattle.std.proofs.lemmas.Bool.{cases_eq, cases_lt, eq-eqb, ne_eqb, lt-ltb, and_from, false≢true, not_from_true, not_from_false, or_left, or_right}
use Rattle.std.proofs.lemmas.List.Elements.{All-cons, All-nil, All-head, All-tail}
use Rattle.std.proofs.lemmas.List.Sorted.{All-permutation}
use Rattle.ufs_base.specs.Images.{Image}
use Rattle.ufs_layout.specs.JournalSector.{JournalSector, journal_of}
use Rattle.ufs_layout.specs.Words.{rising_by}
use Rattle.ufs_layout.specs.declared.geometry.Geometry.{Geometry}
use Rattle.ufs_image.specs.Journal.{epoch_in, ReadSector, FoundSector, well_spelled, has_records, has_commit, same_txn}
use Rattle.ufs_image.specs.BadSectors.{is_off, is_repeated, lacks_records, is_behind_commit, is_old, shares_number, leaves_range, is_another}
use Rattle.ufs_found.specs.Read.{read_from}
use Rattle.ufs_found.specs.Off.{lower, first_off}
use Rattle.ufs_found.specs.Sorted.{number_of}
use Rattle.ufs_found.proofs.Noted.{from_split}
use Rattle.ufs_scan.specs.Edits.{Edit, edits_of}
use Rattle.ufs_scan.specs.Folding.{TailIsKnown}
use Rattle.ufs_scan.proofs.PerInode.{Below, below_itself, below_right}
use Rattle.ufs_scan.proofs.Placed.{each_edit}
use Rattle.ufs_scan.proofs.Stable.{all_rising}

-- ---- sectors in the order of their places

abbrev pub Rising : List FoundSector → Type 0
Rising [] = Unit {0}
Rising (x ∷ xs) = All (λ (o : FoundSector). x.0 < o.0) xs × Rising xs

rising_read : (epoch : ℕ) (d : Image) (a n : ℕ) → Rising (well_spelled (read_from epoch d a n)) × All (λ (o : FoundSector). a ≤ o.0) (well_spelled (read_from epoch d a n))
rising_read epoch d a zero = (tt, All-nil (λ (o : FoundSector). a ≤ o.0))
rising_read epoch d a (suc n) =
    subst (λ (l : List ReadSector). Rising (well_spelled l) × All (λ (o : FoundSector). a ≤ o.0) (well_spelled l)) (sym (from_split epoch d a n)) (by (epoch_in (d a) == epoch) (rising_read epoch d (a + 1) n))
  where
    rest : List ReadSector
    rest = read_from epoch d (a + 1) n

    at : (j : Option JournalSector) → Rising (well_spelled rest) × All (λ (o : FoundSector). a + 1 ≤ o.0) (well_spelled rest) → Rising (well_spelled ((a, j) ∷ rest)) × All (λ (o : FoundSector). a ≤ o.0) (well_spelled ((a, j) ∷ rest))
    at None so = (so.0, λ k x lt. (let le = so.1 k x lt in omega (arith, le)))
    at (Some j) so = (((λ k x lt. (let le = so.1 k x lt in omega (arith, le))), so.0), All-cons (λ (o : FoundSector). a ≤ o.0) (a, j) (well_spelled rest) (omega arith) (λ k x lt. (let le = so.1 k x lt in omega (arith, le))))

    by : (c : Bool) → Rising (well_spelled rest) × All (λ (o : FoundSector). a + 1 ≤ o.0) (well_spelled rest)
        → Rising (well_spelled ((if c then (a, journal_of (d a)) ∷ [] else []) ++ rest)) × All (λ (o : FoundSector). a ≤ o.0) (well_spelled ((if c then (a, journal_of (d a)) ∷ [] else []) ++ rest))
    by true so = at (journal_of (d a)) so
    by false so = (so.0, λ k x lt. (let le = so.1 k x lt in omega (arith, le)))

pub rising_found : (epoch : ℕ) (d : Image) (a n : ℕ) → Rising (well_spelled (read_from epoch d a n))
rising_found epoch d a n = (rising_read epoch d a n).0

-- two that differ stand in two sectors
rising_apart : (xs : List FoundSector) → Rising xs → (a b : ℕ) (d : FoundSector) → a < b → b < length xs → (get_or xs a d).0 < (get_or xs b d).0
rising_apart [] up a b d less lt = absurd (omega (arith, lt))
rising_apart (x ∷ xs) up zero zero d less lt = absurd (omega (arith, less))
rising_apart (x ∷ xs) up zero (suc b) d less lt = up.0 b d (omega (arith, lt))
rising_apart (x ∷ xs) up (suc a) zero d less lt = absurd (omega (arith, less))
rising_apart (x ∷ xs) up (suc a) (suc b) d less lt = rising_apart xs up.1 a b d (omega (arith, less)) (omega (arith, lt))

-- the first is the lowest
first_below : (p : FoundSector → Bool) (xs : List FoundSector) → Rising xs → All (λ (o : FoundSector). p o ≡ true → Below (option_map (λ (f : FoundSector). f.0) (find p xs)) (Some o.0)) xs
first_below p [] up = All-nil (λ (o : FoundSector). p o ≡ true → Below None (Some o.0))
first_below p (x ∷ xs) up = by (p x) refl (first_below p xs up.1)
  where
    by : (b : Bool) → p x ≡ b → All (λ (o : FoundSector). p o ≡ true → Below (option_map (λ (f : FoundSector). f.0) (find p xs)) (Some o.0)) xs
        → All (λ (o : FoundSector). p o ≡ true → Below (option_map (λ (f : FoundSector). f.0) (if b then Some x else find p xs)) (Some o.0)) (x ∷ xs)
    by true is rest = All-cons (λ (o : FoundSector). p o ≡ true → Below (Some x.0) (Some o.0)) x xs (λ passes. below_itself (Some x.0))
        (λ k d lt passes. (let less = up.0 k d lt in let same : min x.0 (get_or xs k d).0 ≡ x.0 = omega (arith, less) in ap Some same))
    by false is rest = All-cons (λ (o : FoundSector). p o ≡ true → Below (option_map (λ (f : FoundSector). f.0) (find p xs)) (Some o.0)) x xs (λ passes. absurd (false≢true (sym is ∙ passes))) rest

-- ---- the reasons

any_at : (p : FoundSector → Bool) (xs : List FoundSector) (a : ℕ) (d : FoundSector) → a < length xs → p (get_or xs a d) ≡ true → list_any p xs ≡ true
any_at p [] a d lt is = absurd (omega (arith, lt))
any_at p (x ∷ xs) zero d lt is = or_left (p x) (list_any p xs) is
any_at p (x ∷ xs) (suc a) d lt is = or_right (p x) (list_any p xs) (any_at p xs a d (omega (arith, lt)) is)

first_reason : (a b c d e f : Bool) → a ≡ true → (a || b || c || d || e || f) ≡ true
first_reason true b c d e f is = refl
first_reason false b c d e f is = absurd (false≢true is)

third_reason : (a b c d e f : Bool) → c ≡ true → (a || b || c || d || e || f) ≡ true
third_reason true b c d e f is = refl
third_reason false true c d e f is = refl
third_reason false false true d e f is = refl
third_reason false false false d e f is = absurd (false≢true is)

tail_off : (g : Geometry) (next : ℕ) (all : List FoundSector) → Rising all → (a b : ℕ) (d : FoundSector) → a < length all → b < length all → has_commit (get_or all a d) ≡ true → has_records (get_or all b d) ≡ true
    → (get_or all b d).1.txn ≡ (get_or all a d).1.txn → (get_or all a d).1.index ≤ (get_or all b d).1.index → is_off g next all (get_or all b d) ≡ true
tail_off g next all up a b d lt_a lt_b commits records txn le = elim (cases_eq (get_or all a d).1.index (get_or all b d).1.index) [
  | inl same ↦ first_reason (is_repeated all o) (lacks_records all o) (is_behind_commit all o) (is_old next o) (shares_number all o) (leaves_range g o)
      (any_at (λ x. is_another o x && (same_txn o x && x.1.index == o.1.index)) all a d lt_a
      (and_from (is_another o f) (same_txn o f && f.1.index == o.1.index) (not_from_false (f.0 == o.0) (ne_eqb f.0 o.0 apart)) (and_from (same_txn o f) (f.1.index == o.1.index) (eq-eqb o.1.txn f.1.txn txn) (eq-eqb f.1.index o.1.index same))))
  | inr ne ↦ third_reason (is_repeated all o) (lacks_records all o) (is_behind_commit all o) (is_old next o) (shares_number all o) (leaves_range g o)
      (and_from (has_records o) (list_any (λ x. same_txn o x && (has_commit x && nat_lt x.1.index o.1.index)) all) records
      (any_at (λ x. same_txn o x && (has_commit x && nat_lt x.1.index o.1.index)) all a d lt_a
      (and_from (same_txn o f) (has_commit f && nat_lt f.1.index o.1.index) (eq-eqb o.1.txn f.1.txn txn) (and_from (has_commit f) (nat_lt f.1.index o.1.index) commits (lt-ltb f.1.index o.1.index (omega (arith, le, ne)))))))
]
  where
    f : FoundSector
    f = get_or all a d

    o : FoundSector
    o = get_or all b d

    apart : f.0 ≢ o.0
    apart same = elim (cases_lt a b) [
      | inl less ↦ (let rises = rising_apart all up a b d less lt_b in omega (arith, rises, same))
      | inr beyond ↦ elim (cases_eq a b) [
        | inl at ↦ false≢true (sym (not_from_true (has_records o) records) ∙ ap (λ k. has_commit (get_or all k d)) (sym at) ∙ commits)
        | inr ne ↦ (let rises = rising_apart all up b a d (omega (arith, beyond, ne)) lt_a in omega (arith, rises, same))
      ]
    ]

-- ---- what is known of the chains

filter_with : (p : FoundSector → Bool) (P : FoundSector → Type 0) (xs : List FoundSector) → All (λ (o : FoundSector). p o ≡ true → P o) xs → All P (filter p xs)
filter_with p P [] every = All-nil P
filter_with p P (x ∷ xs) every = by (p x) refl (filter_with p P xs (All-tail (λ (o : FoundSector). p o ≡ true → P o) x xs every))
  where
    by : (b : Bool) → p x ≡ b → All P (filter p xs) → All P (if b then x ∷ filter p xs else filter p xs)
    by true is rest = All-cons P x (filter p xs) (All-head (λ (o : FoundSector). p o ≡ true → P o) x xs every is) rest
    by false is rest = rest

abbrev Behind : Option ℕ → FoundSector → FoundSector → Type 0
Behind known f o = o.1.txn ≡ f.1.txn → f.1.index ≤ o.1.index → Below known (Some o.0)

pub tails_known : (g : Geometry) (next : ℕ) (all : List FoundSector) → Rising all → (parts : List FoundSector) → IsPermutation (filter has_records all) parts → (wrong off known : Option ℕ) → off ≡ first_off g next all → known ≡ lower wrong off
    → All (TailIsKnown (edits_of g parts) known) (rising_by number_of (filter has_commit all))
tails_known g next all up parts same wrong off known off_is known_is =
    all_rising number_of (TailIsKnown (edits_of g parts) known) (filter has_commit all) (filter_with has_commit (TailIsKnown (edits_of g parts) known) all (λ a d lt_a commits.
    each_edit g (Behind known (get_or all a d)) (λ (e : Edit). e.txn ≡ (get_or all a d).1.txn → (get_or all a d).1.index ≤ e.index → Below known (Some e.does.sector))
    (λ o e is from txn le. ap (λ s. lower known (Some s)) from.sector ∙ is (sym from.txn ∙ txn) (subst (λ n. (get_or all a d).1.index ≤ n) from.index le)) parts
    (All-permutation (Behind known (get_or all a d)) (filter has_records all) parts same (filter_with has_records (Behind known (get_or all a d)) all (λ b e lt_b records txn le.
    under (get_or all b e) (first_below (is_off g next all) all up b e lt_b (off_at a b d e lt_a lt_b commits records txn le)))))))
  where
    under : (o : FoundSector) → Below (first_off g next all) (Some o.0) → Below known (Some o.0)
    under o is = ap (λ k. lower k (Some o.0)) known_is ∙ below_right wrong off (Some o.0) (subst (λ (k : Option ℕ). Below k (Some o.0)) (sym off_is) is) ∙ sym known_is

    off_at : (a b : ℕ) (d e : FoundSector) → a < length all → b < length all → has_commit (get_or all a d) ≡ true → has_records (get_or all b e) ≡ true
        → (get_or all b e).1.txn ≡ (get_or all a d).1.txn → (get_or all a d).1.index ≤ (get_or all b e).1.index → is_off g next all (get_or all b e) ≡ true
    off_at a b d e lt_a lt_b commits records txn le =
        let here : get_or all a d ≡ get_or all a e = Rattle.std.proofs.lemmas.List.get_or_default all a d e lt_a in
        tail_off g next all up a b e lt_a lt_b (ap has_commit (sym here) ∙ commits) records (txn ∙ ap (λ (f : FoundSector). f.1.txn) here) (subst (λ (f : FoundSector). f.1.index ≤ (get_or all b e).1.index) here le)
