-- How large all files are together, by the cells that hold them, and that there are no more than inodes.
use Rattle.std.proofs.Common.{◌≡◌, ◌≤◌, ◌+◌, ℕ, suc, Bool, true, false, cond, eqb, List, [], ◌∷◌, Option, None, Some, is_some, length, map, inl, inr, ap, sym, refl, ◌∙◌, subst, arith}
use Rattle.std.specs.Prelude.{IsSome, unwrap_or}
use native.Mathlib.Decide.{dec_le}
use Rattle.std.specs.Cmp.{eq_by_cmp_equiv, nat_cmp_total}
use Rattle.std.specs.List.{sum_by}
use Rattle.std.specs.Ordering.{eq_by_cmp, is_eq, is_lt, nat_cmp}
use Rattle.std.specs.FinMap as fin
use Rattle.std.specs.FinMap.{get-entries, nat_cmp-IsAntisymmetric}
use Rattle.std.specs.FinMap.Entries.{below_all}
use Rattle.std.proofs.lemmas.Bool.{and_parts}
use Rattle.std.proofs.lemmas.List.Sums.{sum_by-cons}
use Rattle.ufs_bitmap.specs.Blocks.{BlockSet}
use Rattle.ufs_layout.specs.declared.geometry.Geometry.{Geometry}
use Rattle.ufs_model.specs.PosixTree.{PosixTree}
use Rattle.ufs_model.proofs.Facts.Lookups.{one_key}
use Rattle.ufs_model.proofs.Facts.Rising.{entries-rise, less}
use Rattle.ufs_hand_laws.specs.Owned.{Has, count, find, one, present, weigh}
use Rattle.ufs_hand_laws.proofs.Keys.{alike, itself}
use Rattle.ufs_hand_laws.proofs.Owning.{count_has, has_count, present_find}
use Rattle.ufs_held.specs.Together.{under_numbers}
use Rattle.ufs_held.proofs.Few.{few_files}
use Rattle.ufs_joint.specs.Cells.{FileCell}
use Rattle.ufs_joint.specs.Whole.{HasFileCell}
use Rattle.ufs_promise_laws.specs.Parts.{Parts}
use Rattle.ufs_promise_laws.specs.Sound.{IsSoundServer}
use Rattle.ufs_promise_laws.specs.Stored.{ArePartsOf}
use Rattle.ufs_told.specs.Sizes.{size_in, total_size}
use Rattle.ufs_gathered.specs.Ended.{size_of_cell}
use Rattle.ufs_gathered.proofs.Joined.{in_numbered, numbered_in}

-- ---- how often a number stands among the entries of a map

-- two numbers are the same, however that is asked
same_key : (n k : ℕ) → eqb n k ≡ eq_by_cmp nat_cmp n k
same_key n k = by (eqb n k) refl (eq_by_cmp nat_cmp n k) refl
  where
    by : (a : Bool) → eqb n k ≡ a → (b : Bool) → eq_by_cmp nat_cmp n k ≡ b → a ≡ b
    by true is true e = refl
    by false is false e = refl
    by true is false e = (let both : false ≡ true = sym e ∙ ap (eq_by_cmp nat_cmp n) (sym (alike n k is)) ∙ (eq_by_cmp_equiv nat_cmp_total).refl n in absurd cc)
    by false is true e = (let both : false ≡ true = sym is ∙ ap (eqb n) (sym (one_key nat_cmp_total nat_cmp-IsAntisymmetric n k e)) ∙ itself n in absurd cc)

not_below : (n k : ℕ) → n ≡ k → is_lt (nat_cmp n k) ≡ true → ⊥
not_below n k is low = (let both : true ≡ false = sym ((eq_by_cmp_equiv nat_cmp_total).refl n) ∙ ap (eq_by_cmp nat_cmp n) is ∙ ap is_eq (less (nat_cmp n k) low) in absurd cc)

module _ {X : Type 0} where
  found_same : (n : ℕ) (es : List (ℕ × X)) → find eqb n es ≡ fin.find nat_cmp n es
  found_same n [] = refl
  found_same n (e ∷ es) = λ i. cond (same_key n e.0 i) (Some e.1) (found_same n es i)

  none_below : (k : ℕ) (es : List (ℕ × X)) → below_all nat_cmp k es ≡ true → count eqb k es ≡ 0
  none_below k [] h = refl
  none_below k (e ∷ es) h = let both = and_parts _ _ h in by (eqb k e.0) refl both.0 (none_below k es both.1)
    where
      by : (b : Bool) → eqb k e.0 ≡ b → is_lt (nat_cmp k e.0) ≡ true → count eqb k es ≡ 0 → one b + count eqb k es ≡ 0
      by true is low rest = absurd (not_below k e.0 (alike k e.0 is) low)
      by false is low rest = omega (arith, rest)

  once_there : (n : ℕ) (es : List (ℕ × X)) → fin.is_sorted nat_cmp es ≡ true → count eqb n es ≤ 1
  once_there n [] h = omega arith
  once_there n (e ∷ es) h = let both = and_parts _ _ h in by (eqb n e.0) refl (none_below e.0 es both.0) (once_there n es both.1)
    where
      by : (b : Bool) → eqb n e.0 ≡ b → count eqb e.0 es ≡ 0 → count eqb n es ≤ 1 → one b + count eqb n es ≤ 1
      by true is none rest = let here = ap (λ k. count eqb k es) (alike n e.0 is) ∙ none in omega (arith, here)
      by false is none rest = omega (arith, rest)

  count_is : (m : fin.FinMap nat_cmp X) (n : ℕ) → count eqb n (fin.entries m) ≡ present (fin.get m n)
  count_is m n =
      let es = fin.entries m in
      sym (present_find eqb itself alike n es (once_there n es (entries-rise m))) ∙ ap present (found_same n es ∙ sym (get-entries m n))

-- ---- sums

weigh_sum : {A : Type 0} (f : A → ℕ) (xs : List A) → sum_by f xs ≡ weigh f xs
weigh_sum f [] = refl
weigh_sum f (x ∷ xs) = sum_by-cons f x xs ∙ ap (λ n. f x + n) (weigh_sum f xs)

keys_weigh : {X : Type 0} (g : ℕ → ℕ) (es : List (ℕ × X)) → sum_by g (map (λ e. e.0) es) ≡ weigh (λ e. g e.0) es
keys_weigh g [] = refl
keys_weigh g (e ∷ es) = sum_by-cons g e.0 (map (λ e. e.0) es) ∙ ap (λ n. g e.0 + n) (keys_weigh g es)

cells_weigh : (g : ℕ → ℕ) (cs : List FileCell) → ((c : FileCell) → Has c cs → size_of_cell c ≡ g c.value.file.file) → weigh size_of_cell cs ≡ weigh (λ p. g p.0) (under_numbers cs)
cells_weigh g [] each = refl
cells_weigh g (c ∷ cs) each = λ i. each c (inl refl) i + cells_weigh g cs (λ d has. each d (inr has)) i

-- the list without the first place of the number
abbrev gone : {B : Type 0} → ℕ → List (ℕ × B) → List (ℕ × B)
gone n [] = []
gone n (q ∷ qs) = cond (eqb n q.0) qs (q ∷ gone n qs)

module _ {B : Type 0} where
  count_gone : (m n : ℕ) (qs : List (ℕ × B)) → 1 ≤ count eqb n qs → count eqb m (gone n qs) + one (eqb m n) ≡ count eqb m qs
  count_gone m n [] some = absurd (omega (arith, some))
  count_gone m n (q ∷ qs) some = by (eqb n q.0) refl some (count_gone m n qs)
    where
      by : (b : Bool) → eqb n q.0 ≡ b → 1 ≤ one b + count eqb n qs → (1 ≤ count eqb n qs → count eqb m (gone n qs) + one (eqb m n) ≡ count eqb m qs)
          → count eqb m (cond b qs (q ∷ gone n qs)) + one (eqb m n) ≡ one (eqb m q.0) + count eqb m qs
      by true is some rest = let same : one (eqb m n) ≡ one (eqb m q.0) = ap (λ k. one (eqb m k)) (alike n q.0 is) in omega (arith, same)
      by false is some rest = let r = rest (omega (arith, some)) in omega (arith, r)

  weigh_gone : (g : ℕ → ℕ) (n : ℕ) (qs : List (ℕ × B)) → 1 ≤ count eqb n qs → g n + weigh (λ q. g q.0) (gone n qs) ≡ weigh (λ q. g q.0) qs
  weigh_gone g n [] some = absurd (omega (arith, some))
  weigh_gone g n (q ∷ qs) some = by (eqb n q.0) refl some (weigh_gone g n qs)
    where
      by : (b : Bool) → eqb n q.0 ≡ b → 1 ≤ one b + count eqb n qs → (1 ≤ count eqb n qs → g n + weigh (λ q. g q.0) (gone n qs) ≡ weigh (λ q. g q.0) qs)
          → g n + weigh (λ q. g q.0) (cond b qs (q ∷ gone n qs)) ≡ g q.0 + weigh (λ q. g q.0) qs
      by true is some rest = ap (λ k. g k + weigh (λ q. g q.0) qs) (alike n q.0 is)
      by false is some rest = let r = rest (omega (arith, some)) in omega (arith, r)

-- where each number stands as often in both, they add up to the same
weigh_same : {A B : Type 0} (g : ℕ → ℕ) (ps : List (ℕ × A)) (qs : List (ℕ × B)) → ((n : ℕ) → count eqb n ps ≡ count eqb n qs) → weigh (λ p. g p.0) ps ≡ weigh (λ q. g q.0) qs
weigh_same g [] [] each = refl
weigh_same g [] (q ∷ qs) each =
    let all : 0 ≡ one (eqb q.0 q.0) + count eqb q.0 qs = each q.0 in
    let is : one (eqb q.0 q.0) ≡ 1 = ap one (itself q.0) in
    absurd (omega (arith, all, is))
weigh_same g (p ∷ ps) qs each =
    let all : one (eqb p.0 p.0) + count eqb p.0 ps ≡ count eqb p.0 qs = each p.0 in
    let is : one (eqb p.0 p.0) ≡ 1 = ap one (itself p.0) in
    let here : 1 ≤ count eqb p.0 qs = omega (arith, all, is) in
    ap (λ n. g p.0 + n)
    (weigh_same g ps (gone p.0 qs) (λ n.
    let a : one (eqb n p.0) + count eqb n ps ≡ count eqb n qs = each n in
    let b = count_gone n p.0 qs here in
    omega (arith, a, b)))
    ∙ weigh_gone g p.0 qs here

-- ---- the files

length_under : (cs : List FileCell) → length (under_numbers cs) ≡ length cs
length_under [] = refl
length_under (c ∷ cs) = ap suc (length_under cs)

module _ (p : Parts) (t : PosixTree) (are : ArePartsOf p t) (files : List FileCell) (has_files : (c : FileCell) → Has c files → HasFileCell p c.value.file.file c)
    (all_files : (file : ℕ) → IsSome (fin.get p.files file) → (c : FileCell) × Has c files × (c.value.file.file ≡ file)) (once : (file : ℕ) → count eqb file (under_numbers files) ≤ 1) where
  cell_size : (c : FileCell) → Has c files → size_of_cell c ≡ size_in t c.value.file.file
  cell_size c has =
      let of = are.files c.value.file.file c.value.file (has_files c has).file_is in
      sym of.1.may.long ∙ sym (ap (λ (o : Option (List ℕ)). length (unwrap_or o [])) (ap (fin.get t.bytes) (sym of.0) ∙ of.1.has))

  counted : (n : ℕ) → count eqb n (under_numbers files) ≡ present (fin.get t.bytes n)
  counted n = by (fin.get t.bytes n) refl
    where
      none : fin.get t.bytes n ≡ None → 1 ≤ count eqb n (under_numbers files) → ⊥
      none is some =
          let x = has_count eqb itself alike n (under_numbers files) some in
          let y = numbered_in files n x.0 x.1 in
          let of = are.files x.0.value.file.file x.0.value.file (has_files x.0 y.1).file_is in
          let no : None ≡ Some of.1.bytes = sym is ∙ ap (fin.get t.bytes) (y.0 ∙ sym of.0) ∙ of.1.has in
          cc

      by : (o : Option (List ℕ)) → fin.get t.bytes n ≡ o → count eqb n (under_numbers files) ≡ present o
      by (Some bytes) is =
          let c = all_files n (are.here n (are.names.told n ∙ ap is_some is)) in
          let there : Has {A = ℕ × FileCell} (n, c.0) (under_numbers files) = subst (λ (m : ℕ). Has {A = ℕ × FileCell} (m, c.0) (under_numbers files)) c.2 (in_numbered files c.0 c.1) in
          let least = count_has eqb itself alike n c.0 (under_numbers files) there in
          let most = once n in
          omega (arith, least, most)
      by None is = few (dec_le 1 (count eqb n (under_numbers files)))
        where
          few : Dec (1 ≤ count eqb n (under_numbers files)) → count eqb n (under_numbers files) ≡ 0
          few (yes some) = absurd (none is some)
          few (no less) = omega (arith, less)

  pub all_bytes : sum_by size_of_cell files ≡ total_size t
  all_bytes =
      weigh_sum size_of_cell files
      ∙ cells_weigh (size_in t) files cell_size
      ∙ weigh_same (size_in t) (under_numbers files) (fin.entries t.bytes) (λ n. counted n ∙ sym (count_is t.bytes n))
      ∙ sym (keys_weigh (size_in t) (fin.entries t.bytes))

  -- ---- their inodes

  numbered : (n : ℕ) (c : FileCell) → Has {A = ℕ × FileCell} (n, c) (under_numbers files) → HasFileCell p n c
  numbered n c has = let y = numbered_in files n c has in subst (λ (m : ℕ). HasFileCell p m c) (sym y.0) (has_files c y.1)

  pub few_cells : (g : Geometry) (free : BlockSet) → IsSoundServer g free p → length files ≤ g.inodes
  few_cells g free sound =
      let few = few_files p t are g free sound (under_numbers files) numbered once in
      let same = length_under files in
      omega (arith, few, same)
