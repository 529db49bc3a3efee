-- One slot is written: what stands at each place, and how many slots are used.
use Rattle.std.proofs.Common.{◌≡◌, ◌≢◌, ℕ, ◌+◌, ◌<◌, List, Bool, true, false, cond, length, set, ap, ◌∙◌, arith}
use Rattle.std.specs.List.{count_by}
use Rattle.std.proofs.lemmas.List.{get_or-set_same, get_or-set_other}
use Rattle.std.proofs.lemmas.List.Sums.{sum_by-set}
use Rattle.ufs_layout.specs.DentryForm.{DentryForm, free_slot, is_named}
use Rattle.ufs_dirs.specs.Directory.{entry_at}

abbrev pub one_if : Bool → ℕ
one_if b = cond b 1 0

abbrev pub weight : DentryForm → ℕ
weight d = one_if (is_named d)

module _ (slots : List DentryForm) (place : ℕ) where
  pub set_here : (e : DentryForm) (p : ℕ) → place < length slots → p ≡ place → entry_at (set slots place e) p ≡ e
  set_here e p inside same = ap (entry_at (set slots place e)) same ∙ get_or-set_same slots place e free_slot inside

  pub set_other : (e : DentryForm) (p : ℕ) → p ≢ place → entry_at (set slots place e) p ≡ entry_at slots p
  set_other e p differs = get_or-set_other slots place p e free_slot differs

  pub filled_count : (e : DentryForm) → place < length slots → is_named (entry_at slots place) ≡ false → is_named e ≡ true → count_by is_named (set slots place e) ≡ count_by is_named slots + 1
  filled_count e inside free named =
      let change = sum_by-set weight slots place e free_slot inside in
      let before : weight (entry_at slots place) ≡ 0 = ap one_if free in
      let behind : weight e ≡ 1 = ap one_if named in
      omega (arith, change, before, behind)

  pub cleared_count : place < length slots → is_named (entry_at slots place) ≡ true → count_by is_named (set slots place free_slot) + 1 ≡ count_by is_named slots
  cleared_count inside used =
      let change = sum_by-set weight slots place free_slot free_slot inside in
      let before : weight (entry_at slots place) ≡ 1 = ap one_if used in
      omega (arith, change, before)
