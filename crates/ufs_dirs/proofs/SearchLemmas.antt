-- Halving the ranks between which a name may stand.
use Rattle.std.proofs.Common.{◌≡◌, ◌≢◌, ℕ, ◌+◌, ◌<◌, ◌≤◌, List, length, get_or, ap, sym, ◌∙◌, subst, arith, inl, inr}
use Rattle.std.specs.declared.cmp.Ordering.TheVariants.{Less, Equal, Greater}
use Rattle.std.specs.Ordering.{ordering_reverse}
use Rattle.std.proofs.lemmas.Cmp.{nat_list_cmp_total, tied_itself}
use Rattle.std.proofs.lemmas.Map.Lookups.{exact_bytes}
use Rattle.std.proofs.lemmas.Bool.{cases_order}
use Rattle.std.proofs.lemmas.List.{get_or_default}
use Rattle.ufs_layout.specs.DentryForm.{DentryForm, free_slot}
use Rattle.ufs_dirs.specs.Directory.{name_cmp}
use Rattle.ufs_dirs.specs.Index.{ranked, IsIndex, IsRankOf, IsGapFor}

-- the name is above those before `low`, and below those from `high` on
pub record IsWindow (slots : List DentryForm) (order : List ℕ) (name : List ℕ) (low high : ℕ) : Type 0 where
  pub ordered : low ≤ high
  pub in_range : high ≤ length order
  pub before : (j : ℕ) → j < low → name_cmp (ranked slots order j).name name ≡ Less
  pub behind : (j : ℕ) → high ≤ j → j < length order → name_cmp name (ranked slots order j).name ≡ Less

pub below_through : (a b c : List ℕ) → name_cmp a b ≡ Less → name_cmp b c ≡ Less → name_cmp a c ≡ Less
below_through a b c = nat_list_cmp_total.trans a b c

pub above_is_below : (a b : List ℕ) → name_cmp a b ≡ Greater → name_cmp b a ≡ Less
above_is_below a b e = nat_list_cmp_total.antisymm b a ∙ ap ordering_reverse e

pub same_name : (a b : List ℕ) → name_cmp a b ≡ Equal → a ≡ b
same_name = exact_bytes

-- No name is below itself.
pub not_below_itself : (a : List ℕ) → name_cmp a a ≢ Less
not_below_itself a e = let tied : name_cmp a a ≡ Equal = tied_itself nat_list_cmp_total a in cc

-- the entry that was read at a rank
pub ranked_read : (slots : List DentryForm) (order : List ℕ) → IsIndex slots order → (rank : ℕ) → rank < length order → (e : DentryForm) → e ≡ get_or slots (get_or order rank 0) e → e ≡ ranked slots order rank
ranked_read slots order index rank below e is = is ∙ get_or_default slots (get_or order rank 0) e free_slot (index.in_range rank below)

pub first_window : (slots : List DentryForm) (order : List ℕ) (name : List ℕ) → IsWindow slots order name 0 (length order)
first_window slots order name = record {
  ordered = omega arith;
  in_range = omega arith;
  before = λ j h. absurd (omega arith);
  behind = λ j from below. absurd (omega arith);
}

module _ (slots : List DentryForm) (order : List ℕ) (index : IsIndex slots order) (name : List ℕ) (low high middle : ℕ) (window : IsWindow slots order name low high) (from : low ≤ middle) (below : middle < high) where
  pub window_above : name_cmp (ranked slots order middle).name name ≡ Less → IsWindow slots order name (middle + 1) high
  window_above less = record {
    ordered = omega arith;
    in_range = window.in_range;
    before = λ j h. elim (cases_order j middle) [
      | inl same ↦ subst (λ k. name_cmp (ranked slots order k).name name ≡ Less) (sym same) less
      | inr (inl under) ↦ below_through (ranked slots order j).name (ranked slots order middle).name name (index.rising j middle under (omega (arith, window.in_range))) less
      | inr (inr above) ↦ absurd (omega arith)
    ];
    behind = window.behind;
  }

  pub window_below : name_cmp (ranked slots order middle).name name ≡ Greater → IsWindow slots order name low middle
  window_below greater = record {
    ordered = from;
    in_range = omega (arith, window.in_range);
    before = window.before;
    behind = λ j h end. let less = above_is_below (ranked slots order middle).name name greater in elim (cases_order j middle) [
      | inl same ↦ subst (λ k. name_cmp name (ranked slots order k).name ≡ Less) (sym same) less
      | inr (inl under) ↦ absurd (omega arith)
      | inr (inr above) ↦ below_through name (ranked slots order middle).name (ranked slots order j).name less (index.rising middle j above end)
    ];
  }

  pub window_ends : name_cmp (ranked slots order middle).name name ≡ Equal → IsRankOf slots order name middle
  window_ends equal = record { in_range = omega (arith, window.in_range); same = same_name (ranked slots order middle).name name equal }

pub window_closed : (slots : List DentryForm) (order : List ℕ) (name : List ℕ) (low high : ℕ) → IsWindow slots order name low high → high ≤ low → IsGapFor slots order name low
window_closed slots order name low high window closed = record {
  in_range = omega (arith, window.ordered, window.in_range);
  before = window.before;
  behind = λ j from below. window.behind j (omega (arith, window.ordered)) below;
}
