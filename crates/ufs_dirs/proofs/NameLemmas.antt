-- What a name stands for, by the place of its slot and by its rank.
use Rattle.std.proofs.Common.{◌≡◌, ◌≢◌, ℕ, ◌<◌, List, Bool, true, false, eqb, length, get_or, set, ap, sym, refl, ◌∙◌, subst, arith, Some, None, inl, inr, length-set}
use Rattle.std.specs.List.{find, position_or_len, slice_get}
use Rattle.std.specs.Str.{bytes_eq}
use Rattle.std.proofs.lemmas.Bool.{eqb-true, both_ways, and_parts, and_from, cases_lt, cases_order, false_from_ne_true}
use Rattle.std.proofs.lemmas.Slice.Eq.{bytes_eq-Decides}
use Rattle.std.proofs.lemmas.List.{get_or-set_other, get_or_default}
use Rattle.std.proofs.lemmas.List.Folds.{Any-from_list_any, find_at, position_or_len-set}
use Rattle.std.proofs.lemmas.List.Sums.{position_or_len_is, fails_before_first, passes_at_first}
use Rattle.std.proofs.lemmas.Option.{slice_get_past, slice_get-get_or}
use Rattle.ufs_layout.specs.DentryForm.{DentryForm, free_slot, is_named}
use Rattle.ufs_dirs.specs.Directory.{NamesOnce, entry_at, entry_of, has_name, name_cmp}
use Rattle.ufs_dirs.specs.Index.{IsIndex, IsRankOf, IsGapFor, ranked}
use Rattle.ufs_dirs.proofs.SearchLemmas.{not_below_itself}

-- ---- names of entries

pub named_so : (name : List ℕ) (e : DentryForm) → is_named e ≡ true → e.name ≡ name → has_name name e ≡ true
named_so name e named same = and_from (is_named e) (bytes_eq e.name name) named ((bytes_eq-Decides e.name name).1 same)

pub so_named : (name : List ℕ) (e : DentryForm) → has_name name e ≡ true → (is_named e ≡ true) × (e.name ≡ name)
so_named name e has = let parts = and_parts (is_named e) (bytes_eq e.name name) has in (parts.0, (bytes_eq-Decides e.name name).0 parts.1)

pub not_so_named : (name : List ℕ) (e : DentryForm) → e.name ≢ name → has_name name e ≡ false
not_so_named name e differs = false_from_ne_true (has_name name e) (λ h. differs (so_named name e h).1)

pub free_has_no_name : (name : List ℕ) (e : DentryForm) → is_named e ≡ false → has_name name e ≡ false
free_has_no_name name e free = false_from_ne_true (has_name name e) (λ h. both_ways (is_named e) free (so_named name e h).0)

-- ---- by place

pub entry_of-first : (slots : List DentryForm) (name : List ℕ) (place : ℕ) → place < length slots → has_name name (entry_at slots place) ≡ true → ((j : ℕ) → j < place → has_name name (entry_at slots j) ≡ false) → entry_of slots name ≡ Some (entry_at slots place)
entry_of-first slots name place inside has before =
    find_at (has_name name) slots
    ∙ ap (slice_get slots) (position_or_len_is (has_name name) slots place free_slot (omega arith) before (λ _. has))
    ∙ slice_get-get_or slots place free_slot inside

pub entry_of-none : (slots : List DentryForm) (name : List ℕ) → ((j : ℕ) → j < length slots → has_name name (entry_at slots j) ≡ false) → entry_of slots name ≡ None
entry_of-none slots name none =
    find_at (has_name name) slots
    ∙ ap (slice_get slots) (position_or_len_is (has_name name) slots (length slots) free_slot (omega arith) none (λ h. absurd (omega arith)))
    ∙ slice_get_past slots (length slots) (omega arith)

-- where a name stands for nothing, no slot has it
pub no_slot_has : (slots : List DentryForm) (name : List ℕ) → entry_of slots name ≡ None → (j : ℕ) → j < length slots → has_name name (entry_at slots j) ≡ false
no_slot_has slots name none j inside = elim (cases_lt (position_or_len (has_name name) slots) (length slots)) [
  | inl found ↦ let some = find_at (has_name name) slots ∙ slice_get-get_or slots (position_or_len (has_name name) slots) free_slot found in absurd cc
  | inr past ↦ fails_before_first (has_name name) slots j free_slot (omega arith)
]

-- Another element at a place, neither of which passes, changes nothing of what is found.
pub find-set_other : {X : Type 0} (p : X → Bool) (xs : List X) (i : ℕ) (y d : X) → p y ≡ false → p (get_or xs i d) ≡ false → find p (set xs i y) ≡ find p xs
find-set_other p xs i y d new old =
    let n = position_or_len p xs in
    let kept : position_or_len p (set xs i y) ≡ n = position_or_len-set p xs i y d (new ∙ sym old) in
    find_at p (set xs i y) ∙ ap (slice_get (set xs i y)) kept ∙ same_there n refl ∙ sym (find_at p xs)
  where
    same_there : (n : ℕ) → n ≡ position_or_len p xs → slice_get (set xs i y) n ≡ slice_get xs n
    same_there n is = elim (cases_lt n (length xs)) [
      | inl found ↦
          let passes : p (get_or xs n d) ≡ true = subst (λ k. p (get_or xs k d) ≡ true) (sym is) (passes_at_first p xs d (subst (λ k. k < length xs) is found)) in
          let other : n ≢ i = λ e. both_ways (p (get_or xs i d)) old (subst (λ k. p (get_or xs k d) ≡ true) e passes) in
          slice_get-get_or (set xs i y) n d (omega (arith, length-set xs i y, found)) ∙ ap Some (get_or-set_other xs i n y d other) ∙ sym (slice_get-get_or xs n d found)
      | inr past ↦ slice_get_past (set xs i y) n (omega (arith, length-set xs i y)) ∙ sym (slice_get_past xs n past)
    ]

-- ---- by rank

-- a used slot's rank
pub rank_of : (slots : List DentryForm) (order : List ℕ) → IsIndex slots order → (place : ℕ) → place < length slots → is_named (entry_at slots place) ≡ true → (k : ℕ) × (k < length order) × (get_or order k 0 ≡ place)
rank_of slots order index place inside used =
    let found = Any-from_list_any (λ p. eqb p place) order (index.each place inside used) in (
      found.0,
      found.2,
      get_or_default order found.0 0 found.1 found.2 ∙ found.3 ∙ eqb-true found.1 place found.4,
    )

pub names_once : (slots : List DentryForm) (order : List ℕ) → IsIndex slots order → NamesOnce slots
names_once slots order index i j before inside used same =
    let used_too : is_named (entry_at slots i) ≡ true = ap (λ (n : List ℕ). is_named (record { inode = 0; kind = 0; name = n })) same ∙ used in
    let a = rank_of slots order index i (omega arith) used_too in
    let b = rank_of slots order index j inside used in
    let name_a : (ranked slots order a.0).name ≡ (entry_at slots i).name = ap (λ (p : ℕ). (entry_at slots p).name) a.2 in
    let name_b : (ranked slots order b.0).name ≡ (entry_at slots j).name = ap (λ (p : ℕ). (entry_at slots p).name) b.2 in
    elim (cases_order a.0 b.0) [
      | inl tied ↦ let clash : i ≡ j = sym a.2 ∙ ap (λ (k : ℕ). get_or order k 0) tied ∙ b.2 in omega arith
      | inr (inl less) ↦ not_below_itself (entry_at slots j).name (ap (λ (n : List ℕ). name_cmp n (entry_at slots j).name) (sym (name_a ∙ same)) ∙ ap (λ (n : List ℕ). name_cmp (ranked slots order a.0).name n) (sym name_b) ∙ index.rising a.0 b.0 less b.1)
      | inr (inr more) ↦ not_below_itself (entry_at slots j).name (ap (λ (n : List ℕ). name_cmp n (entry_at slots j).name) (sym name_b) ∙ ap (λ (n : List ℕ). name_cmp (ranked slots order b.0).name n) (sym (name_a ∙ same)) ∙ index.rising b.0 a.0 more a.1)
    ]

-- two slots with one name are one
pub same_slot : (slots : List DentryForm) → NamesOnce slots → (name : List ℕ) (i j : ℕ) → i < length slots → j < length slots → has_name name (entry_at slots i) ≡ true → has_name name (entry_at slots j) ≡ true → i ≡ j
same_slot slots once name i j inside inside_too has has_too =
    let a = so_named name (entry_at slots i) has in
    let b = so_named name (entry_at slots j) has_too in
    elim (cases_order i j) [
      | inl same ↦ same
      | inr (inl less) ↦ absurd (once i j less inside_too b.0 (a.1 ∙ sym b.1))
      | inr (inr more) ↦ absurd (once j i more inside a.0 (b.1 ∙ sym a.1))
    ]

-- what stands in a used slot is what its name stands for
pub entry_of-slot : (slots : List DentryForm) → NamesOnce slots → (name : List ℕ) (place : ℕ) → place < length slots → has_name name (entry_at slots place) ≡ true → entry_of slots name ≡ Some (entry_at slots place)
entry_of-slot slots once name place inside has =
    entry_of-first slots name place inside has
    (λ j h. false_from_ne_true (has_name name (entry_at slots j)) (λ too. let same = same_slot slots once name j place (omega arith) inside too has in omega arith))

pub entry_of-rank : (slots : List DentryForm) (order : List ℕ) → IsIndex slots order → (name : List ℕ) (rank : ℕ) → IsRankOf slots order name rank → entry_of slots name ≡ Some (ranked slots order rank)
entry_of-rank slots order index name rank is =
    entry_of-slot slots (names_once slots order index) name (get_or order rank 0) (index.in_range rank is.in_range) (named_so name (ranked slots order rank) (index.used rank is.in_range) is.same)

pub entry_of-gap : (slots : List DentryForm) (order : List ℕ) → IsIndex slots order → (name : List ℕ) (rank : ℕ) → IsGapFor slots order name rank → entry_of slots name ≡ None
entry_of-gap slots order index name rank gap =
    entry_of-none slots name (λ j inside. false_from_ne_true (has_name name (entry_at slots j)) (λ has.
    let parts = so_named name (entry_at slots j) has in
    let at = rank_of slots order index j inside parts.0 in
    let same : (ranked slots order at.0).name ≡ name = ap (λ (p : ℕ). (entry_at slots p).name) at.2 ∙ parts.1 in
    elim (cases_lt at.0 rank) [
      | inl before ↦ not_below_itself name (ap (λ (n : List ℕ). name_cmp n name) (sym same) ∙ gap.before at.0 before)
      | inr behind ↦ not_below_itself name (ap (λ (n : List ℕ). name_cmp name n) (sym same) ∙ gap.behind at.0 behind at.1)
    ]))
