-- A free slot is filled, and its place comes into the index.
use Rattle.std.proofs.Common.{◌≡◌, ◌≢◌, ℕ, ◌-◌, ◌<◌, List, true, false, eqb, length, get_or, set, ap, sym, refl, ◌∙◌, subst, arith, Some, None, inl, inr, length-set}
use Rattle.std.specs.List.{insert, list_any}
use Rattle.std.specs.declared.cmp.Ordering.TheVariants.{Less}
use Rattle.std.proofs.lemmas.Bool.{both_ways, cases_order, cases_eq}
use Rattle.std.proofs.lemmas.List.Edits.{length-insert}
use Rattle.ufs_layout.specs.DentryForm.{DentryForm, free_slot, is_named}
use Rattle.ufs_dirs.specs.Directory.{entry_at, entry_of, has_name, name_cmp}
use Rattle.ufs_dirs.specs.Index.{IsIndex, IsGapFor, ranked}
use Rattle.ufs_dirs.specs.Changes.{SetsName}
use Rattle.ufs_dirs.proofs.EditLemmas.{is_there, put_above, put_below, put_here, put_there}
use Rattle.ufs_dirs.proofs.SlotLemmas.{filled_count, set_here, set_other}
use Rattle.ufs_dirs.proofs.NameLemmas.{rank_of, named_so, not_so_named, free_has_no_name, no_slot_has, entry_of-first, find-set_other}

module _ (slots : List DentryForm) (place : ℕ) (e : DentryForm) (inside : place < length slots) (free : is_named (entry_at slots place) ≡ false) (named : is_named e ≡ true) where
  abbrev filled : List DentryForm
  filled = set slots place e

  entry_here : (p : ℕ) → p ≡ place → entry_at filled p ≡ e
  entry_here p same = set_here slots place e p inside same

  entry_other : (p : ℕ) → p ≢ place → entry_at filled p ≡ entry_at slots p
  entry_other p differs = set_other slots place e p differs

  -- what names stand for
  pub filled_names : (blocks : List ℕ) → entry_of slots e.name ≡ None → SetsName (record { blocks = blocks; slots = slots }) (record { blocks = blocks; slots = filled }) e.name (Some e)
  filled_names blocks absent = record {
    this =
        entry_of-first filled e.name place (omega (arith, length-set slots place e)) (ap (has_name e.name) (entry_here place refl) ∙ named_so e.name e named refl)
        (λ j h. ap (has_name e.name) (entry_other j (λ same. omega arith)) ∙ no_slot_has slots e.name absent j (omega arith))
        ∙ ap Some (entry_here place refl);
    others = λ other differs. find-set_other (has_name other) slots place e free_slot (not_so_named other e (λ same. differs (sym same))) (free_has_no_name other (entry_at slots place) free);
  }

  module _ (order : List ℕ) (rank : ℕ) (index : IsIndex slots order) (gap : IsGapFor slots order e.name rank) where
    abbrev longer : List ℕ
    longer = insert order rank place

    no_rank : (k : ℕ) → k < length order → get_or order k 0 ≢ place
    no_rank k below same = both_ways (is_named (entry_at slots place)) free (subst (λ p. is_named (entry_at slots p) ≡ true) same (index.used k below))

    place_below : (k : ℕ) → k < rank → get_or longer k 0 ≡ get_or order k 0
    place_below = put_below order rank place gap.in_range

    place_here : (k : ℕ) → k ≡ rank → get_or longer k 0 ≡ place
    place_here = put_here order rank place gap.in_range

    place_above : (k : ℕ) → rank < k → get_or longer k 0 ≡ get_or order (k - 1) 0
    place_above = put_above order rank place gap.in_range

    ranked_below : (k : ℕ) → k < rank → ranked filled longer k ≡ ranked slots order k
    ranked_below k h = ap (entry_at filled) (place_below k h) ∙ entry_other (get_or order k 0) (no_rank k (omega (arith, gap.in_range)))

    ranked_here : (k : ℕ) → k ≡ rank → ranked filled longer k ≡ e
    ranked_here k same = entry_here (get_or longer k 0) (place_here k same)

    ranked_above : (k : ℕ) → rank < k → k < length longer → ranked filled longer k ≡ ranked slots order (k - 1)
    ranked_above k h end = ap (entry_at filled) (place_above k h) ∙ entry_other (get_or order (k - 1) 0) (no_rank (k - 1) (omega (arith, length-insert order rank place gap.in_range)))

    in_range : (k : ℕ) → k < length longer → get_or longer k 0 < length filled
    in_range k h = elim (cases_order k rank) [
      | inl same ↦ omega (arith, place_here k same, length-set slots place e)
      | inr (inl less) ↦ omega (arith, place_below k less, length-set slots place e, gap.in_range, index.in_range k (omega (arith, gap.in_range)))
      | inr (inr more) ↦ omega (arith, place_above k more, length-set slots place e, index.in_range (k - 1) (omega (arith, length-insert order rank place gap.in_range)))
    ]

    used : (k : ℕ) → k < length longer → is_named (ranked filled longer k) ≡ true
    used k h = elim (cases_order k rank) [
      | inl same ↦ ap is_named (ranked_here k same) ∙ named
      | inr (inl less) ↦ ap is_named (ranked_below k less) ∙ index.used k (omega (arith, gap.in_range))
      | inr (inr more) ↦ ap is_named (ranked_above k more h) ∙ index.used (k - 1) (omega (arith, length-insert order rank place gap.in_range))
    ]

    -- the order of two names, given what they are
    ordered : (a b c d : DentryForm) → a ≡ c → b ≡ d → name_cmp c.name d.name ≡ Less → name_cmp a.name b.name ≡ Less
    ordered a b c d left right less = ap (λ (x : DentryForm). name_cmp x.name b.name) left ∙ ap (λ (x : DentryForm). name_cmp c.name x.name) right ∙ less

    rising : (j k : ℕ) → j < k → k < length longer → name_cmp (ranked filled longer j).name (ranked filled longer k).name ≡ Less
    rising j k less end =
        let size = length-insert order rank place gap.in_range in
        elim (cases_order j rank) [
          | inl at_j ↦ ordered (ranked filled longer j) (ranked filled longer k) e (ranked slots order (k - 1)) (ranked_here j at_j) (ranked_above k (omega arith) end) (gap.behind (k - 1) (omega arith) (omega (arith, size)))
          | inr (inl low_j) ↦ elim (cases_order k rank) [
            | inl at_k ↦ ordered (ranked filled longer j) (ranked filled longer k) (ranked slots order j) e (ranked_below j low_j) (ranked_here k at_k) (gap.before j low_j)
            | inr (inl low_k) ↦ ordered (ranked filled longer j) (ranked filled longer k) (ranked slots order j) (ranked slots order k) (ranked_below j low_j) (ranked_below k low_k) (index.rising j k less (omega (arith, gap.in_range)))
            | inr (inr high_k) ↦ ordered (ranked filled longer j) (ranked filled longer k) (ranked slots order j) (ranked slots order (k - 1)) (ranked_below j low_j) (ranked_above k high_k end) (index.rising j (k - 1) (omega arith) (omega (arith, size)))
          ]
          | inr (inr high_j) ↦ ordered (ranked filled longer j) (ranked filled longer k) (ranked slots order (j - 1)) (ranked slots order (k - 1)) (ranked_above j high_j (omega arith)) (ranked_above k (omega arith) end) (index.rising (j - 1) (k - 1) (omega arith) (omega (arith, size)))
        ]

    each : (p : ℕ) → p < length filled → is_named (entry_at filled p) ≡ true → list_any (λ q. eqb q p) longer ≡ true
    each p h is =
        let size = length-insert order rank place gap.in_range in
        elim (cases_eq p place) [
          | inl same ↦ is_there longer rank p (omega (arith, size, gap.in_range)) (place_here rank refl ∙ sym same)
          | inr differs ↦
              let at = rank_of slots order index p (omega (arith, length-set slots place e)) (ap is_named (sym (entry_other p differs)) ∙ is) in
              put_there order rank place gap.in_range at.0 p at.1 at.2
        ]

    pub filled_index : IsIndex filled longer
    filled_index = record {
      in_range = in_range;
      used = used;
      rising = rising;
      each = each;
      counted = omega (arith, length-insert order rank place gap.in_range, index.counted, filled_count slots place e inside free named);
    }
