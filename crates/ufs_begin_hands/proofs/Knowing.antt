-- One file after the other is taken out of a map.
use Rattle.std.proofs.Common.{◌≡◌, ◌≢◌, inl, inr, ℕ, zero, suc, ◌+◌, ◌<◌, Bool, true, false, cond, List, [], ◌∷◌, drop, get_or, length, Some, slice_index_or, ap, sym, refl, ◌∙◌, subst, arith}
use Rattle.std.specs.Cmp.{eq_by_cmp_equiv, nat_cmp_total}
use Rattle.std.specs.Ordering.{eq_by_cmp, is_eq, nat_cmp}
use Rattle.std.specs.FinMap as fin
use Rattle.std.specs.FinMap.{get-entries, nat_cmp-IsAntisymmetric}
use Rattle.std.specs.FinMap.Entries.{below_all}
use Rattle.std.proofs.lemmas.Bool.{and_parts}
use Rattle.std.proofs.lemmas.List.{drop_more, get_or-map, length-map}
use Rattle.ufs_file.specs.Content.{no_content}
use Rattle.ufs_file.specs.Hand.{FileState}
use Rattle.ufs_files.specs.Files.{Files}
use Rattle.ufs_model.proofs.Facts.Lookups.{one_key}
use Rattle.ufs_model.proofs.Facts.Rising.{entries-rise, less}
use Rattle.ufs_hand_laws.specs.Owned.{Has}

module _ {X : Type 0} where
  pub sorted_drop : (n : ℕ) (es : List (ℕ × X)) → fin.is_sorted nat_cmp es ≡ true → fin.is_sorted nat_cmp (drop n es) ≡ true
  sorted_drop zero es sorted = sorted
  sorted_drop (suc n) [] sorted = sorted
  sorted_drop (suc n) (e ∷ es) sorted = sorted_drop n es (and_parts _ _ sorted).1

  -- a key behind the first is another
  pub other_key : (k : ℕ) (es : List (ℕ × X)) → below_all nat_cmp k es ≡ true → (file : ℕ) (x : X) → Has {A = ℕ × X} (file, x) es → file ≢ k
  other_key k [] below file x has same = absurd has
  other_key k (e ∷ es) below file x (inl is) same =
      let low = (and_parts _ _ below).0 in
      let key : k ≡ e.0 = sym same ∙ ap (λ (q : ℕ × X). q.0) is in
      let both : true ≡ false = sym ((eq_by_cmp_equiv nat_cmp_total).refl k) ∙ ap (eq_by_cmp nat_cmp k) key ∙ ap is_eq (less (nat_cmp k e.0) low) in
      absurd cc
  other_key k (e ∷ es) below file x (inr has) same = other_key k es (and_parts _ _ below).1 file x has same

  -- what stands at a key is found there
  found : (es : List (ℕ × X)) → fin.is_sorted nat_cmp es ≡ true → (k : ℕ) (x : X) → Has {A = ℕ × X} (k, x) es → fin.find nat_cmp k es ≡ Some x
  found [] sorted k x has = absurd has
  found (e ∷ es) sorted k x (inl is) =
      ap (λ (q : ℕ × X). cond (eq_by_cmp nat_cmp k q.0) (Some q.1) (fin.find nat_cmp k es)) (sym is)
      ∙ ap (λ b. cond b (Some x) (fin.find nat_cmp k es)) ((eq_by_cmp_equiv nat_cmp_total).refl k)
  found (e ∷ es) sorted k x (inr has) = let both = and_parts _ _ sorted in by (eq_by_cmp nat_cmp k e.0) refl (other_key e.0 es both.0 k x has) (found es both.1 k x has)
    where
      by : (b : Bool) → eq_by_cmp nat_cmp k e.0 ≡ b → k ≢ e.0 → fin.find nat_cmp k es ≡ Some x → cond b (Some e.1) (fin.find nat_cmp k es) ≡ Some x
      by true is not rest = absurd (not (one_key nat_cmp_total nat_cmp-IsAntisymmetric k e.0 is))
      by false is not rest = rest

  pub stands : (m : fin.FinMap nat_cmp X) (k : ℕ) (x : X) → Has {A = ℕ × X} (k, x) (fin.entries m) → fin.get m k ≡ Some x
  stands m k x has = get-entries m k ∙ found (fin.entries m) (entries-rise m) k x has

-- ---- one step

module _ (files : Files) (numbers : List ℕ) (same : numbers ≡ fin.keys files) (i : ℕ) (low : i < length numbers) where
  abbrev es : List (ℕ × FileState)
  es = fin.entries files

  abbrev blank : ℕ × FileState
  blank = (0, record { file = 0; inode = 0; extents = []; content = no_content })

  -- the next file
  abbrev pub at : ℕ × FileState
  at = get_or es i blank

  low_es : i < length es
  low_es = let counted = ap (λ (l : List ℕ). length l) same in let long = length-map es (λ (e : ℕ × FileState). e.0) in omega (arith, low, counted, long)

  pub drop_is : drop i es ≡ at ∷ drop (i + 1) es
  drop_is = drop_more es i blank low_es

  pub number_is : slice_index_or numbers i 0 ≡ at.0
  number_is = ap (λ (l : List ℕ). slice_index_or l i 0) same ∙ get_or-map (λ (e : ℕ × FileState). e.0) es i blank 0 low_es

  pub first_has : Has {A = ℕ × FileState} (at.0, at.1) (drop i es)
  first_has = subst (Has {A = ℕ × FileState} (at.0, at.1)) (sym drop_is) (inl refl)

  pub rest_has : (file : ℕ) (f : FileState) → Has {A = ℕ × FileState} (file, f) (drop (i + 1) es) → Has {A = ℕ × FileState} (file, f) (drop i es)
  rest_has file f has = subst (Has {A = ℕ × FileState} (file, f)) (sym drop_is) (inr has)

  pub rest_other : (file : ℕ) (f : FileState) → Has {A = ℕ × FileState} (file, f) (drop (i + 1) es) → file ≢ slice_index_or numbers i 0
  rest_other file f has is =
      let sorted = subst (λ (l : List (ℕ × FileState)). fin.is_sorted nat_cmp l ≡ true) drop_is (sorted_drop i es (entries-rise files)) in
      other_key at.0 (drop (i + 1) es) (and_parts _ _ sorted).0 file f has (is ∙ number_is)
