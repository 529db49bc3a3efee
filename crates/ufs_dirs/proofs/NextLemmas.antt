-- The next name above a name.
use Rattle.std.proofs.Common.{◌≡◌, ◌≢◌, ℕ, ◌+◌, ◌<◌, ◌≤◌, List, length, get_or, ap, sym, refl, ◌∙◌, arith, is_some, IsSome, inl, inr}
use Rattle.std.specs.List.{position_or_len}
use Rattle.std.specs.declared.cmp.Ordering.TheVariants.{Less, Equal, Greater}
use Rattle.std.proofs.lemmas.Bool.{cases_lt, cases_order, false≢true}
use Rattle.std.proofs.lemmas.Cmp.{nat_list_cmp_total, tied_itself}
use Rattle.std.proofs.lemmas.List.Folds.{find_at}
use Rattle.std.proofs.lemmas.List.Sums.{passes_at_first}
use Rattle.std.proofs.lemmas.Option.{slice_get_past}
use Rattle.ufs_layout.specs.DentryForm.{DentryForm, free_slot}
use Rattle.ufs_dirs.specs.Directory.{entry_at, entry_of, has_name, name_cmp}
use Rattle.ufs_dirs.specs.Index.{IsIndex, IsRankOf, IsGapFor, IsNextRank, ranked}
use Rattle.ufs_dirs.specs.Changes.{IsNextName, IsLastName}
use Rattle.ufs_dirs.proofs.SearchLemmas.{not_below_itself, below_through}
use Rattle.ufs_dirs.proofs.NameLemmas.{rank_of, named_so, so_named, names_once, entry_of-slot}

-- Of two names only one is below the other.
pub not_both_below : (a b : List ℕ) → name_cmp a b ≡ Less → name_cmp b a ≢ Less
not_both_below a b less more = not_below_itself a (below_through a b a less more)

module _ (slots : List DentryForm) (order : List ℕ) (index : IsIndex slots order) (after : List ℕ) where
  pub next_of_rank : (rank : ℕ) → IsRankOf slots order after rank → IsNextRank slots order after (rank + 1)
  next_of_rank rank is = record {
    in_range = omega (arith, is.in_range);
    not_above = λ j h. elim (cases_order j rank) [
      | inl same ↦ λ less. not_below_itself after (ap (name_cmp after) (sym is.same ∙ ap (λ (k : ℕ). (ranked slots order k).name) (sym same)) ∙ less)
      | inr (inl low) ↦
          not_both_below (ranked slots order j).name after (ap (name_cmp (ranked slots order j).name) (sym is.same) ∙ index.rising j rank low is.in_range)
      | inr (inr high) ↦ absurd (omega arith)
    ];
    above = λ j h end. ap (λ (n : List ℕ). name_cmp n (ranked slots order j).name) (sym is.same) ∙ index.rising rank j (omega arith) end;
  }

  pub next_of_gap : (rank : ℕ) → IsGapFor slots order after rank → IsNextRank slots order after rank
  next_of_gap rank gap = record {
    in_range = gap.in_range;
    not_above = λ j h. not_both_below (ranked slots order j).name after (gap.before j h);
    above = gap.behind;
  }

  -- a name that stands for something has a rank
  pub rank_of_name : (name : List ℕ) → IsSome (entry_of slots name) → (k : ℕ) × (k < length order) × ((ranked slots order k).name ≡ name)
  rank_of_name name some =
      let place = position_or_len (has_name name) slots in
      let inside : place < length slots = elim (cases_lt place (length slots)) [
        | inl found ↦ found
        | inr past ↦ absurd (false≢true (ap is_some (sym (find_at (has_name name) slots ∙ slice_get_past slots place past)) ∙ some))
      ] in
      let parts = so_named name (entry_at slots place) (passes_at_first (has_name name) slots free_slot inside) in
      let at = rank_of slots order index place inside parts.0 in
      (at.0, at.1, ap (λ (p : ℕ). (entry_at slots p).name) at.2 ∙ parts.1)

  module _ (blocks : List ℕ) (rank : ℕ) (next : IsNextRank slots order after rank) where
    pub next_there : rank < length order → IsNextName (record { blocks = blocks; slots = slots }) after (ranked slots order rank)
    next_there below = record {
      there = let e = ranked slots order rank in entry_of-slot slots (names_once slots order index) e.name (get_or order rank 0) (index.in_range rank below) (named_so e.name e (index.used rank below) refl);
      above = next.above rank (omega arith) below;
      lowest = λ name some less greater.
          let at = rank_of_name name some in
          let e = ranked slots order rank in
          let compared : name_cmp e.name (ranked slots order at.0).name ≡ Greater = ap (name_cmp e.name) at.2 ∙ greater in
          elim (cases_order at.0 rank) [
            | inl same ↦
                let tied : name_cmp e.name (ranked slots order at.0).name ≡ Equal = ap (λ (k : ℕ). name_cmp e.name (ranked slots order k).name) same ∙ tied_itself nat_list_cmp_total e.name in
                absurd cc
            | inr (inl low) ↦ next.not_above at.0 low (ap (name_cmp after) at.2 ∙ less)
            | inr (inr high) ↦ let rises = index.rising rank at.0 high at.1 in absurd cc
          ];
    }

    pub next_none : length order ≤ rank → IsLastName (record { blocks = blocks; slots = slots }) after
    next_none end name some less = let at = rank_of_name name some in next.not_above at.0 (omega (arith, at.1)) (ap (name_cmp after) at.2 ∙ less)
