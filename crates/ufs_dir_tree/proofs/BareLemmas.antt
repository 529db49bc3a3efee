-- A directory without names has only free slots.
use Rattle.std.proofs.Common.{◌≡◌, ℕ, List, [], ◌∷◌, Bool, true, false, cond, ◌&&◌, filter, length, Option, Some, None, ap, sym, refl, ◌∙◌, arith}
use Rattle.std.proofs.lemmas.Bool.{and_from}
use Rattle.std.proofs.lemmas.List.Sums.{length-filter}
use Rattle.std.specs.List.{count_by}
use Rattle.std.specs.Str.{bytes_eq}
use Rattle.ufs_layout.specs.DentryForm.{DentryForm, is_named}
use Rattle.ufs_dirs.specs.Directory.{entry_of, has_name}
use Rattle.ufs_model.proofs.Facts.Pieces.{bytes_same}
use Rattle.ufs_dir_tree.specs.DirCalls.{IsBare}

no_name : (slots : List DentryForm) (name : List ℕ) → length (filter is_named slots) ≡ 0 → entry_of slots name ≡ None
no_name [] name h = refl
no_name (e ∷ es) name h = by (is_named e) refl (no_name es name) h
  where
    by : (b : Bool) → is_named e ≡ b → (length (filter is_named es) ≡ 0 → entry_of es name ≡ None) → length (cond b (e ∷ filter is_named es) (filter is_named es)) ≡ 0 → entry_of (e ∷ es) name ≡ None
    by true is rest h = absurd (omega arith)
    by false is rest h = ap (λ b. cond (b && bytes_eq e.name name) (Some e) (entry_of es name)) is ∙ rest h

later : (b : Bool) (e : DentryForm) (o : Option DentryForm) → cond b (Some e) o ≡ None → o ≡ None
later true e o h = cc
later false e o h = h

no_slot : (slots : List DentryForm) → IsBare slots → length (filter is_named slots) ≡ 0
no_slot [] bare = refl
no_slot (e ∷ es) bare = by (is_named e) refl (no_slot es (λ name. later (has_name name e) e (entry_of es name) (bare name)))
  where
    by : (b : Bool) → is_named e ≡ b → length (filter is_named es) ≡ 0 → length (cond b (e ∷ filter is_named es) (filter is_named es)) ≡ 0
    by true is rest =
        let has : has_name e.name e ≡ true = and_from _ _ is (bytes_same e.name e.name refl) in
        let there : Some e ≡ None = ap (λ b. cond b (Some e) (entry_of es e.name)) (sym has) ∙ bare e.name in
        absurd cc
    by false is rest = rest

pub bare_from_count : (slots : List DentryForm) → count_by is_named slots ≡ 0 → IsBare slots
bare_from_count slots none name = no_name slots name (length-filter is_named slots ∙ none)

pub count_from_bare : (slots : List DentryForm) → IsBare slots → count_by is_named slots ≡ 0
count_from_bare slots bare = sym (length-filter is_named slots) ∙ no_slot slots bare
