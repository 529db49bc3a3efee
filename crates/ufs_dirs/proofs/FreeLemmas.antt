-- The list of free slots: what it says of a place, and how a slot that is filled or cleared leaves it.
use Rattle.std.proofs.Common.{◌≡◌, ◌≢◌, ℕ, ◌-◌, ◌<◌, ◌≤◌, List, true, false, eqb, ltb, length, get_or, set, ap, sym, refl, ◌∙◌, subst, arith, inl, inr, length-set}
use Rattle.std.specs.List.Sorted.{IsPartitionedBy}
use Rattle.std.specs.List.{insert, remove}
use Rattle.std.proofs.lemmas.Bool.{eqb-true, lt-ltb, ltb-true, both_ways, cases_order, cases_eq, true_from_ne_false}
use Rattle.std.proofs.lemmas.List.{get_or_default}
use Rattle.std.proofs.lemmas.List.Edits.{length-insert, length-remove}
use Rattle.std.proofs.lemmas.List.Folds.{Any-from_list_any}
use Rattle.ufs_layout.specs.DentryForm.{DentryForm, free_slot, is_named}
use Rattle.ufs_dirs.specs.Directory.{entry_at}
use Rattle.ufs_dirs.specs.Index.{AreAbove, IsFalling, IsFreeList}
use Rattle.ufs_dirs.proofs.EditLemmas.{is_there, left_there, old_rank, old_rising, put_above, put_below, put_here, put_there}
use Rattle.ufs_dirs.proofs.SlotLemmas.{cleared_count, filled_count, set_here, set_other}

-- Those that are above a number stand first.
pub falling_parted : (xs : List ℕ) (x : ℕ) → IsFalling xs → IsPartitionedBy (λ y. ltb x y) xs
falling_parted xs x falling i j d le inside above =
    let more : x < get_or xs j 0 = omega (arith, ltb-true x (get_or xs j d) above, get_or_default xs j d 0 inside) in
    let first : x < get_or xs i 0 = elim (cases_order i j) [
      | inl same ↦ subst (λ (k : ℕ). x < get_or xs k 0) (sym same) more
      | inr (inl low) ↦ omega (arith, falling i j low inside)
      | inr (inr high) ↦ absurd (omega arith)
    ] in
    lt-ltb x (get_or xs i d) (omega (arith, first, get_or_default xs i d 0 (omega arith)))

pub above_along : (f f' : List ℕ) (place place' count : ℕ) → f' ≡ f → place' ≡ place → AreAbove f' place' count → AreAbove f place count
above_along f f' place place' count at_f at_place is = subst (λ (x : List ℕ). AreAbove x place count) at_f (subst (λ (p : ℕ). AreAbove f' p count) at_place is)

module _ (slots : List DentryForm) (free : List ℕ) (list : IsFreeList slots free) where
  -- where a free slot stands in the list
  pub rank_of_free : (place : ℕ) → place < length slots → is_named (entry_at slots place) ≡ false → (k : ℕ) × (k < length free) × (get_or free k 0 ≡ place)
  rank_of_free place inside unused =
      let found = Any-from_list_any (λ p. eqb p place) free (list.each place inside unused) in (
        found.0,
        found.2,
        get_or_default free found.0 0 found.1 found.2 ∙ found.3 ∙ eqb-true found.1 place found.4,
      )

  -- It stands behind those that are above it.
  pub free_here : (place at : ℕ) → place < length slots → is_named (entry_at slots place) ≡ false → AreAbove free place at → (at < length free) × (get_or free at 0 ≡ place)
  free_here place at inside unused above =
      let k = rank_of_free place inside unused in
      elim (cases_order k.0 at) [
        | inl same ↦ (omega (arith, k.1), ap (λ (j : ℕ). get_or free j 0) (sym same) ∙ k.2)
        | inr (inl low) ↦ absurd (omega (arith, above.above k.0 low, k.2))
        | inr (inr high) ↦ absurd (omega (arith, list.falling at k.0 high k.1, above.rest at (omega arith) (omega (arith, k.1)), k.2))
      ]

  -- another rank has another place
  other_free : (j k : ℕ) → j < length free → k < length free → j ≢ k → get_or free j 0 ≢ get_or free k 0
  other_free j k inside inside_too differs same = elim (cases_order j k) [
    | inl tied ↦ differs tied
    | inr (inl low) ↦ omega (arith, list.falling j k low inside_too)
    | inr (inr high) ↦ omega (arith, list.falling k j high inside)
  ]

  -- where the list is empty each slot is used
  pub used_where_none : length free ≤ 0 → (place : ℕ) → place < length slots → is_named (entry_at slots place) ≡ true
  used_where_none none place inside = true_from_ne_false (is_named (entry_at slots place)) (λ unused. omega (arith, (rank_of_free place inside unused).1))

  -- the last one is a free slot, and below it each is used
  pub lowest_free : (xs : List ℕ) (x : ℕ) → xs ≡ free → 0 < length xs → x ≡ get_or xs (length xs - 1) x → (x < length slots) × (is_named (entry_at slots x) ≡ false) × ((place : ℕ) → place < x → is_named (entry_at slots place) ≡ true)
  lowest_free xs x same some read =
      let last : ℕ = length free - 1 in
      let end : last < length free = omega (arith, ap (λ (ys : List ℕ). length ys) same) in
      let at : x ≡ get_or free last 0 = subst (λ (ys : List ℕ). x ≡ get_or ys (length ys - 1) x) same read ∙ get_or_default free last x 0 end in
      let inside : x < length slots = omega (arith, at, list.in_range last end) in (
        inside,
        ap (λ (p : ℕ). is_named (entry_at slots p)) at ∙ list.unused last end,
        (λ place below. true_from_ne_false (is_named (entry_at slots place)) (λ unused.
            let k = rank_of_free place (omega arith) unused in
            elim (cases_order k.0 last) [
              | inl tied ↦ omega (arith, at, ap (λ (j : ℕ). get_or free j 0) tied, k.2)
              | inr (inl low) ↦ omega (arith, at, list.falling k.0 last low end, k.2)
              | inr (inr high) ↦ omega (arith, k.1)
            ])),
      )

  -- ---- a free slot is filled

  module _ (place at : ℕ) (e : DentryForm) (inside : place < length slots) (unused : is_named (entry_at slots place) ≡ false) (named : is_named e ≡ true) (above : AreAbove free place at) where
    pub free_filled : IsFreeList (set slots place e) (remove free at)
    free_filled =
        let filled = set slots place e in
        let shorter = remove free at in
        let size = length-set slots place e in
        let here = free_here place at inside unused above in
        let same_entry : (j : ℕ) → j < length free → j ≢ at → entry_at filled (get_or free j 0) ≡ entry_at slots (get_or free j 0) = λ j h differs.
        set_other slots place e (get_or free j 0) (λ same. other_free j at h here.0 differs (same ∙ sym here.1)) in
        record {
          in_range = λ k h. let old = old_rank free at here.0 k h in omega (arith, old.3, list.in_range old.0 old.1, size);
          unused = λ k h.
              let old = old_rank free at here.0 k h in
              ap (λ (p : ℕ). is_named (entry_at filled p)) old.3 ∙ ap is_named (same_entry old.0 old.1 old.2) ∙ list.unused old.0 old.1;
          falling = λ j k less h.
              let a = old_rank free at here.0 j (omega arith) in
              let b = old_rank free at here.0 k h in
              omega (arith, list.falling a.0 b.0 (old_rising free at here.0 j k (omega arith) h less) b.1, a.3, b.3);
          each = λ p h is.
              let differs : p ≢ place = λ same. both_ways (is_named (entry_at filled p)) is (ap is_named (set_here slots place e p inside same) ∙ named) in
              let k = rank_of_free p (omega (arith, size)) (ap is_named (sym (set_other slots place e p differs)) ∙ is) in
              left_there free at here.0 k.0 p k.1 k.2 (λ same. differs (sym k.2 ∙ ap (λ (j : ℕ). get_or free j 0) same ∙ here.1));
          counted = omega (arith, size, length-remove free at here.0, list.counted, filled_count slots place e inside unused named);
        }

  -- ---- a used slot is cleared

  module _ (place at : ℕ) (inside : place < length slots) (used : is_named (entry_at slots place) ≡ true) (above : AreAbove free place at) where
    pub free_cleared : IsFreeList (set slots place free_slot) (insert free at place)
    free_cleared =
        let cleared = set slots place free_slot in
        let longer = insert free at place in
        let size = length-set slots place free_slot in
        let count = length-insert free at place above.in_range in
        let below = put_below free at place above.in_range in
        let here = put_here free at place above.in_range in
        let behind = put_above free at place above.in_range in
        let apart : (j : ℕ) → j < length free → get_or free j 0 ≢ place = λ j h same.
        both_ways (is_named (entry_at slots place)) (ap (λ (p : ℕ). is_named (entry_at slots p)) (sym same) ∙ list.unused j h) used in
        let unused_there : (j : ℕ) → j < length free → is_named (entry_at cleared (get_or free j 0)) ≡ false = λ j h.
        ap is_named (set_other slots place free_slot (get_or free j 0) (apart j h)) ∙ list.unused j h in
        record {
          in_range = λ k h. elim (cases_order k at) [
            | inl same ↦ omega (arith, here k same, size)
            | inr (inl low) ↦ omega (arith, below k low, list.in_range k (omega (arith, above.in_range)), size)
            | inr (inr high) ↦ omega (arith, behind k high, list.in_range (k - 1) (omega (arith, count)), size)
          ];
          unused = λ k h. elim (cases_order k at) [
            | inl same ↦ ap is_named (set_here slots place free_slot (get_or longer k 0) inside (here k same))
            | inr (inl low) ↦ ap (λ (p : ℕ). is_named (entry_at cleared p)) (below k low) ∙ unused_there k (omega (arith, above.in_range))
            | inr (inr high) ↦ ap (λ (p : ℕ). is_named (entry_at cleared p)) (behind k high) ∙ unused_there (k - 1) (omega (arith, count))
          ];
          falling = λ j k less h. elim (cases_order j at) [
            | inl at_j ↦ omega (arith, here j at_j, behind k (omega arith), above.rest (k - 1) (omega arith) (omega (arith, count)), apart (k - 1) (omega (arith, count)))
            | inr (inl low_j) ↦ elim (cases_order k at) [
              | inl at_k ↦ omega (arith, below j low_j, here k at_k, above.above j low_j)
              | inr (inl low_k) ↦ omega (arith, below j low_j, below k low_k, list.falling j k less (omega (arith, above.in_range)))
              | inr (inr high_k) ↦ omega (arith, below j low_j, behind k high_k, list.falling j (k - 1) (omega arith) (omega (arith, count)))
            ]
            | inr (inr high_j) ↦ omega (arith, behind j high_j, behind k (omega arith), list.falling (j - 1) (k - 1) (omega arith) (omega (arith, count)))
          ];
          each = λ p h is. elim (cases_eq p place) [
            | inl same ↦ is_there longer at p (omega (arith, count, above.in_range)) (here at refl ∙ sym same)
            | inr differs ↦
                let k = rank_of_free p (omega (arith, size)) (ap is_named (sym (set_other slots place free_slot p differs)) ∙ is) in
                put_there free at place above.in_range k.0 p k.1 k.2
          ];
          counted = omega (arith, size, count, list.counted, cleared_count slots place inside used);
        }
