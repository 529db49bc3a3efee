-- The names in the order of their ranks are the directory's list of names.
use Rattle.std.proofs.Common.{◌≡◌, ℕ, suc, ◌<◌, List, [], ◌∷◌, true, Some, length, get_or, map, is_some, ap, sym, refl, ◌∙◌, arith}
use Rattle.std.specs.Cmp.{both_ways}
use Rattle.std.specs.FinMap.Entries.{below_all}
use Rattle.std.specs.List.{list_any, slice_get}
use Rattle.std.specs.Ordering.{is_lt}
use Rattle.std.specs.declared.cmp.Ordering.TheVariants.{Less}
use Rattle.std.specs.Str.{bytes_eq}
use Rattle.std.proofs.lemmas.Bool.{and_from}
use Rattle.std.proofs.lemmas.List.{get_or-map, get_or_default, length-map}
use Rattle.std.proofs.lemmas.List.Folds.{Any-from_list_any, list_any_at}
use Rattle.std.proofs.lemmas.Option.{slice_get-get_or}
use Rattle.std.proofs.lemmas.Slice.Eq.{bytes_eq-Decides}
use Rattle.ufs_layout.specs.DentryForm.{DentryForm}
use Rattle.ufs_dirs.specs.Directory.{entry_at, entry_of, name_cmp}
use Rattle.ufs_dirs.proofs.Facts.{same_names_in}
use Rattle.ufs_dirs.specs.Index.{IsIndex, ranked}
use Rattle.ufs_dirs.specs.Names.{AreNamesIn, names_rise}
use Rattle.ufs_dirs.proofs.NameLemmas.{entry_of-rank}
use Rattle.ufs_dirs.proofs.NextLemmas.{rank_of_name}

below_from : (x : List ℕ) (xs : List (List ℕ)) → ((k : ℕ) → k < length xs → name_cmp x (get_or xs k []) ≡ Less) → below_all name_cmp x (map {B = List ℕ × Unit {0}} (λ name. (name, tt)) xs) ≡ true
below_from x [] h = refl
below_from x (y ∷ ys) h = and_from _ _ (ap is_lt (h 0 (omega arith))) (below_from x ys (λ k inside. h (suc k) (omega arith)))

rise_from : (xs : List (List ℕ)) → ((j k : ℕ) → j < k → k < length xs → name_cmp (get_or xs j []) (get_or xs k []) ≡ Less) → names_rise xs ≡ true
rise_from [] h = refl
rise_from (x ∷ xs) h =
    and_from _ _ (below_from x xs (λ k inside. h 0 (suc k) (omega arith) (omega arith)))
    (rise_from xs (λ j k less inside. h (suc j) (suc k) (omega arith) (omega arith)))

abbrev pub listed : List DentryForm → List ℕ → List (List ℕ)
listed slots order = map (λ (p : ℕ). (entry_at slots p).name) order

module _ (slots : List DentryForm) (order : List ℕ) (index : IsIndex slots order) where
  listed_at : (k : ℕ) → k < length order → get_or (listed slots order) k [] ≡ (ranked slots order k).name
  listed_at k inside = get_or-map (λ (p : ℕ). (entry_at slots p).name) order k 0 [] inside

  named_if_listed : (name : List ℕ) → list_any (bytes_eq name) (listed slots order) ≡ true → is_some (entry_of slots name) ≡ true
  named_if_listed name e =
      let found = Any-from_list_any (bytes_eq name) (listed slots order) e in
      let inside : found.0 < length order = omega (arith, found.2, length-map order (λ (p : ℕ). (entry_at slots p).name)) in
      let same : (ranked slots order found.0).name ≡ name = sym (listed_at found.0 inside) ∙ get_or_default (listed slots order) found.0 [] found.1 found.2 ∙ found.3 ∙ sym ((bytes_eq-Decides name found.1).0 found.4) in
      ap is_some (entry_of-rank slots order index name found.0 (record { in_range = inside; same = same }))

  listed_if_named : (name : List ℕ) → is_some (entry_of slots name) ≡ true → list_any (bytes_eq name) (listed slots order) ≡ true
  listed_if_named name some =
      let at = rank_of_name slots order index name name some in
      list_any_at (bytes_eq name) (listed slots order) at.0 [] (omega (arith, at.1, length-map order (λ (p : ℕ). (entry_at slots p).name)))
      ((bytes_eq-Decides name _).1 (sym (listed_at at.0 at.1 ∙ at.2)))

  pub are_listed : AreNamesIn slots (listed slots order)
  are_listed = record {
    rising = rise_from (listed slots order) (λ j k less inside.
        let below : k < length order = omega (arith, inside, length-map order (λ (p : ℕ). (entry_at slots p).name)) in
        ap (λ n. name_cmp n (get_or (listed slots order) k [])) (listed_at j (omega arith)) ∙ ap (name_cmp (ranked slots order j).name) (listed_at k below) ∙ index.rising j k less below);
    each = λ name. both_ways _ _ (named_if_listed name) (listed_if_named name);
  }

  module _ (names : List (List ℕ)) (are : AreNamesIn slots names) where
    is_listed : listed slots order ≡ names
    is_listed = same_names_in slots (listed slots order) names are_listed are

    pub count_listed : length order ≡ length names
    count_listed = sym (length-map order (λ (p : ℕ). (entry_at slots p).name)) ∙ ap (λ (l : List (List ℕ)). length l) is_listed

    pub name_listed : (k : ℕ) → k < length order → slice_get names k ≡ Some (ranked slots order k).name
    name_listed k inside =
        ap (λ l. slice_get l k) (sym is_listed) ∙ slice_get-get_or (listed slots order) k [] (omega (arith, inside, length-map order (λ (p : ℕ). (entry_at slots p).name)))
        ∙ ap Some (listed_at k inside)
