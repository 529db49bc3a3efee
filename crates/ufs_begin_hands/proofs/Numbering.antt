-- The files of an image have the numbers from 0 on, so there are as many as the next one's number tells.
use Rattle.std.proofs.Common.{◌≡◌, ℕ, suc, ◌+◌, ◌<◌, ◌≤◌, Bool, true, false, cond, ltb, List, [], ◌∷◌, length, map, Some, is_some, ap, sym, refl, ◌∙◌, subst, arith}
use Rattle.std.specs.Prelude.{◌==◌, nat_lt}
use Rattle.std.specs.Cmp.{eq_by_cmp_equiv, nat_cmp_total}
use Rattle.std.specs.Ordering.{eq_by_cmp, is_lt, nat_cmp}
use Rattle.std.specs.declared.cmp.Ordering.TheVariants.{Less, Equal, Greater}
use Rattle.std.specs.FinMap as fin
use Rattle.std.specs.FinMap.{get-entries, get-from_entries, nat_cmp-IsAntisymmetric}
use Rattle.std.specs.FinMap.Entries.{below_all}
use Rattle.std.proofs.lemmas.Bool.{and_parts}
use Rattle.std.proofs.lemmas.Bool.Decides.{nat_tests}
use Rattle.std.proofs.lemmas.List.{length-map}
use native.Mathlib.Decide.{dec_le}
use Rattle.ufs_base.specs.Images.{Image}
use Rattle.ufs_ledger.specs.Kept.{paths_of}
use Rattle.ufs_model.specs.Start.{PathNodes, bytes_from, next_from}
use Rattle.ufs_model.proofs.Facts.Lookups.{one_key}
use Rattle.ufs_model.proofs.Facts.Rising.{entries-rise}
use Rattle.ufs_model.proofs.Facts.Starts.{held-bytes_from, within_zero}
use Rattle.ufs_start.specs.Begun.{IsBegun, tree_under}
use Rattle.ufs_start.specs.declared.parts.Start.{Start}

-- ---- a map of all numbers between two

less_is : (k x : ℕ) → is_lt (nat_cmp k x) ≡ true → k < x
less_is k x is = by (nat_lt k x) refl is
  where
    none : (c : Bool) → is_lt (cond c Equal Greater) ≡ true → ⊥
    none true off = (let no : false ≡ true = off in absurd cc)
    none false off = (let no : false ≡ true = off in absurd cc)

    by : (b : Bool) → nat_lt k x ≡ b → is_lt (cond b Less (cond (k == x) Equal Greater)) ≡ true → k < x
    by true e at = grind (arith, nat_tests, e)
    by false e at = absurd (none (k == x) at)

same : (q k : ℕ) → eq_by_cmp nat_cmp q k ≡ true → q ≡ k
same q k e = one_key nat_cmp_total nat_cmp-IsAntisymmetric q k e

module _ {X : Type 0} where
  above : (k : ℕ) (es : List (ℕ × X)) (q : ℕ) → below_all nat_cmp k es ≡ true → is_some (fin.find nat_cmp q es) ≡ true → k < q
  above k [] q below there = (let no : false ≡ true = there in absurd cc)
  above k (e ∷ es) q below there = let both = and_parts _ _ below in by (eq_by_cmp nat_cmp q e.0) refl there (above k es q both.1) (less_is k e.0 both.0)
    where
      by : (b : Bool) → eq_by_cmp nat_cmp q e.0 ≡ b → is_some (cond b (Some e.1) (fin.find nat_cmp q es)) ≡ true → (is_some (fin.find nat_cmp q es) ≡ true → k < q) → k < e.0 → k < q
      by true is found rest low = subst (λ n. k < n) (sym (same q e.0 is)) low
      by false is found rest low = rest found

  here : (e : ℕ × X) (es : List (ℕ × X)) → is_some (fin.find nat_cmp e.0 (e ∷ es)) ≡ true
  here e es = ap (λ b. is_some (cond b (Some e.1) (fin.find nat_cmp e.0 es))) ((eq_by_cmp_equiv nat_cmp_total).refl e.0)

  -- what is found behind the first is found
  behind : (e : ℕ × X) (es : List (ℕ × X)) (q : ℕ) → is_some (fin.find nat_cmp q es) ≡ true → is_some (fin.find nat_cmp q (e ∷ es)) ≡ true
  behind e es q found = by (eq_by_cmp nat_cmp q e.0)
    where
      by : (b : Bool) → is_some (cond b (Some e.1) (fin.find nat_cmp q es)) ≡ true
      by true = refl
      by false = found

  -- and what is found is the first or behind it
  first_or : (e : ℕ × X) (es : List (ℕ × X)) (q : ℕ) → is_some (fin.find nat_cmp q (e ∷ es)) ≡ true → (q ≡ e.0 → ⊥) → is_some (fin.find nat_cmp q es) ≡ true
  first_or e es q found not = by (eq_by_cmp nat_cmp q e.0) refl found
    where
      by : (b : Bool) → eq_by_cmp nat_cmp q e.0 ≡ b → is_some (cond b (Some e.1) (fin.find nat_cmp q es)) ≡ true → is_some (fin.find nat_cmp q es) ≡ true
      by true is at = absurd (not (same q e.0 is))
      by false is at = at

  filled : (es : List (ℕ × X)) (a n : ℕ) → a ≤ n → fin.is_sorted nat_cmp es ≡ true → ((q : ℕ) → a ≤ q → q < n → is_some (fin.find nat_cmp q es) ≡ true) → ((q : ℕ) → is_some (fin.find nat_cmp q es) ≡ true → (a ≤ q) × (q < n)) → length es + a ≡ n
  filled [] a n low sorted there only = by (dec_le (suc a) n)
    where
      by : Dec (suc a ≤ n) → 0 + a ≡ n
      by (yes more) = (let no : false ≡ true = there a (omega arith) (omega (arith, more)) in absurd cc)
      by (no end) = omega (arith, low, end)
  filled (e ∷ es) a n low sorted there only =
      let both = and_parts _ _ sorted in
      let first = only e.0 (here e es) in
      let least = first.0 in
      let under = first.1 in
      let is : a ≡ e.0 = lowest (dec_le (suc a) e.0) both.0 least under in
      let rest = filled es (suc a) n (omega (arith, under, is)) both.1
      (λ q from to. first_or e es q (there q (omega (arith, from)) to) (λ same. omega (arith, same, from, is)))
      (λ q found. let high = above e.0 es q both.0 found in let to = (only q (behind e es q found)).1 in (omega (arith, high, is), to)) in
      omega (arith, rest)
    where
      lowest : Dec (suc a ≤ e.0) → below_all nat_cmp e.0 es ≡ true → a ≤ e.0 → e.0 < n → a ≡ e.0
      lowest (yes less) below least under = (let high = above e.0 es a below (first_or e es a (there a (omega arith) (omega (arith, less, under))) (λ same. omega (arith, same, less))) in absurd (omega (arith, high, less)))
      lowest (no end) below least under = omega (arith, end, least)

-- ---- the files

module _ (sectors : ℕ) (image : Image) (s : Start) (begun : IsBegun sectors image s) where
  abbrev nodes : PathNodes
  nodes = paths_of (tree_under s.superblock image)

  -- a file is live just where its number is below the next
  live : (file : ℕ) → is_some (fin.find nat_cmp file (fin.entries s.names.held)) ≡ ltb file s.names.next
  live file =
      ap is_some (sym (get-entries s.names.held file))
      ∙ begun.names.told file
      ∙ ap is_some (get-from_entries nat_cmp_total (bytes_from 0 (fin.entries nodes)) file)
      ∙ held-bytes_from file 0 (fin.entries nodes)
      ∙ within_zero (next_from 0 (fin.entries nodes)) file
      ∙ ap (ltb file) (sym begun.names.next)

  pub next_is : length (fin.keys s.names.held) ≡ s.names.next
  next_is =
      let all = filled (fin.entries s.names.held) 0 s.names.next (omega arith) (entries-rise s.names.held)
      (λ q _ low. live q ∙ (let e : ltb q s.names.next ≡ true = grind (arith, nat_tests, low) in e))
      (λ q found. let e = sym (live q) ∙ found in (omega arith, grind (arith, nat_tests, e))) in
      let long = length-map (fin.entries s.names.held) (λ e. e.0) in
      omega (arith, all, long)
