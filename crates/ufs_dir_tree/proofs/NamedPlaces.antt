-- A directory in a slot of which a name stands is met.
use Rattle.std.proofs.Common.{◌≡◌, ℕ, zero, suc, List, [], ◌∷◌, Bool, true, false, cond, Some, IsSome, ap, sym, refl, ◌∙◌}
use Rattle.std.specs.List.{slice_get}
use Rattle.std.proofs.lemmas.Bool.{and_from, true≢false}
use Rattle.ufs_layout.specs.DentryForm.{DentryForm, is_named}
use Rattle.ufs_dirs.specs.Directory.{entry_of, has_name}
use Rattle.ufs_model.proofs.Facts.Pieces.{bytes_same}
use Rattle.ufs_dir_tree.specs.DirTable.{DirTable, IsDirTable, IsMet, slots_at}
use Rattle.ufs_dir_tree.proofs.StepLemmas.{some_same}

pub stands_at : (slots : List DentryForm) (name : List ℕ) (place : ℕ) (d : DentryForm) → slice_get slots place ≡ Some d → has_name name d ≡ true → IsSome (entry_of slots name)
stands_at [] name place d at has = absurd cc
stands_at (e ∷ es) name place d at has = by (has_name name e) refl place at (λ k next. stands_at es name k d next has)
  where
    by : (b : Bool) → has_name name e ≡ b → (k : ℕ) → slice_get (e ∷ es) k ≡ Some d → ((k : ℕ) → slice_get es k ≡ Some d → IsSome (entry_of es name)) → IsSome (cond b (Some e) (entry_of es name))
    by true is k at rest = refl
    by false is zero at rest = absurd (true≢false (sym has ∙ ap (has_name name) (sym (some_same e d at)) ∙ is))
    by false is (suc k) at rest = rest k at

pub met_by_place : (t : DirTable) → IsDirTable t → (i place : ℕ) (d : DentryForm) → slice_get (slots_at t i) place ≡ Some d → is_named d ≡ true → IsMet t i
met_by_place t is i place d at named = is.reached i d.name (stands_at (slots_at t i) d.name place d at (and_from _ _ named (bytes_same d.name d.name refl)))
