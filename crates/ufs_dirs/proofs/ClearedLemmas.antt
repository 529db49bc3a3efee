-- A used slot is cleared, and its place goes out of the index.
use Rattle.std.proofs.Common.{◌≡◌, ◌≢◌, ℕ, ◌<◌, List, true, eqb, length, get_or, set, ap, sym, refl, ◌∙◌, arith, None, inl, inr, length-set}
use Rattle.std.specs.List.{remove, list_any}
use Rattle.std.specs.declared.cmp.Ordering.TheVariants.{Less}
use Rattle.std.proofs.lemmas.Bool.{both_ways, cases_order, cases_eq, false_from_ne_true}
use Rattle.std.proofs.lemmas.List.Edits.{length-remove}
use Rattle.ufs_layout.specs.DentryForm.{DentryForm, free_slot, is_named}
use Rattle.ufs_dirs.specs.Directory.{entry_at, has_name, name_cmp}
use Rattle.ufs_dirs.specs.Index.{IsIndex, ranked}
use Rattle.ufs_dirs.specs.Changes.{SetsName}
use Rattle.ufs_dirs.proofs.EditLemmas.{left_there, old_rank, old_rising}
use Rattle.ufs_dirs.proofs.SlotLemmas.{cleared_count, set_here, set_other}
use Rattle.ufs_dirs.proofs.SearchLemmas.{not_below_itself}
use Rattle.ufs_dirs.proofs.NameLemmas.{rank_of, named_so, not_so_named, free_has_no_name, entry_of-none, find-set_other, names_once, same_slot}

module _ (slots : List DentryForm) (order : List ℕ) (rank : ℕ) (index : IsIndex slots order) (inside : rank < length order) where
  abbrev place : ℕ
  place = get_or order rank 0

  abbrev cleared : List DentryForm
  cleared = set slots place free_slot

  abbrev shorter : List ℕ
  shorter = remove order rank

  entry_here : (p : ℕ) → p ≡ place → entry_at cleared p ≡ free_slot
  entry_here p same = set_here slots place free_slot p (index.in_range rank inside) same

  entry_other : (p : ℕ) → p ≢ place → entry_at cleared p ≡ entry_at slots p
  entry_other p differs = set_other slots place free_slot p differs

  -- what names stand for
  pub cleared_names : (blocks : List ℕ) (name : List ℕ) → (ranked slots order rank).name ≡ name → SetsName (record { blocks = blocks; slots = slots }) (record { blocks = blocks; slots = cleared }) name None
  cleared_names blocks name same = record {
    this = entry_of-none cleared name (λ j h. elim (cases_eq j place) [
      | inl here ↦ ap (has_name name) (entry_here j here)
      | inr differs ↦
          false_from_ne_true (has_name name (entry_at cleared j)) (λ has. differs
          (same_slot slots (names_once slots order index) name j place (omega (arith, length-set slots place free_slot)) (index.in_range rank inside)
          (ap (has_name name) (sym (entry_other j differs)) ∙ has) (named_so name (entry_at slots place) (index.used rank inside) same)))
    ]);
    others = λ other differs. find-set_other (has_name other) slots place free_slot free_slot (free_has_no_name other free_slot refl) (not_so_named other (entry_at slots place) (λ e. differs (sym e ∙ same)));
  }

  -- another rank has another place
  other_place : (k : ℕ) → k < length order → k ≢ rank → get_or order k 0 ≢ place
  other_place k below differs same =
      let tied : ranked slots order k ≡ ranked slots order rank = ap (entry_at slots) same in
      let name = (ranked slots order rank).name in
      elim (cases_order k rank) [
        | inl at_k ↦ differs at_k
        | inr (inl less) ↦ not_below_itself name (ap (λ (x : DentryForm). name_cmp x.name name) (sym tied) ∙ index.rising k rank less inside)
        | inr (inr more) ↦ not_below_itself name (ap (λ (x : DentryForm). name_cmp name x.name) (sym tied) ∙ index.rising rank k more below)
      ]

  ranked_old : (k j : ℕ) → j < length order → j ≢ rank → get_or shorter k 0 ≡ get_or order j 0 → ranked cleared shorter k ≡ ranked slots order j
  ranked_old k j below differs same = ap (entry_at cleared) same ∙ entry_other (get_or order j 0) (other_place j below differs)

  in_range : (k : ℕ) → k < length shorter → get_or shorter k 0 < length cleared
  in_range k h = let old = old_rank order rank inside k h in omega (arith, old.3, index.in_range old.0 old.1, length-set slots place free_slot)

  used : (k : ℕ) → k < length shorter → is_named (ranked cleared shorter k) ≡ true
  used k h = let old = old_rank order rank inside k h in ap is_named (ranked_old k old.0 old.1 old.2 old.3) ∙ index.used old.0 old.1

  rising : (j k : ℕ) → j < k → k < length shorter → name_cmp (ranked cleared shorter j).name (ranked cleared shorter k).name ≡ Less
  rising j k less end =
      let a = old_rank order rank inside j (omega arith) in
      let b = old_rank order rank inside k end in
      ap (λ (x : DentryForm). name_cmp x.name (ranked cleared shorter k).name) (ranked_old j a.0 a.1 a.2 a.3)
      ∙ ap (λ (x : DentryForm). name_cmp (ranked slots order a.0).name x.name) (ranked_old k b.0 b.1 b.2 b.3)
      ∙ index.rising a.0 b.0 (old_rising order rank inside j k (omega arith) end less) b.1

  each : (p : ℕ) → p < length cleared → is_named (entry_at cleared p) ≡ true → list_any (λ q. eqb q p) shorter ≡ true
  each p h is =
      let differs : p ≢ place = λ same. both_ways (is_named (entry_at cleared p)) (ap is_named (entry_here p same)) is in
      let at = rank_of slots order index p (omega (arith, length-set slots place free_slot)) (ap is_named (sym (entry_other p differs)) ∙ is) in
      left_there order rank inside at.0 p at.1 at.2 (λ same. differs (sym at.2 ∙ ap (λ (k : ℕ). get_or order k 0) same))

  pub cleared_index : IsIndex cleared shorter
  cleared_index = record {
    in_range = in_range;
    used = used;
    rising = rising;
    each = each;
    counted = omega (arith, length-remove order rank inside, index.counted, cleared_count slots place (index.in_range rank inside) (index.used rank inside));
  }
