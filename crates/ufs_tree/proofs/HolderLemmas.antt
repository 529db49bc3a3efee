-- Counts by file, and those of descriptors as they come and go.
use Rattle.std.proofs.Common.{◌≡◌, ◌≤◌, ℕ, ◌+◌, ◌-◌, List, Bool, true, false, cond, Option, Some, None, ap, sym, refl, subst, ◌∙◌, arith, eqb, ltb}
use Rattle.std.specs.declared.cmp.Ordering.{Ordering}
use Rattle.std.specs.Prelude.{unwrap_or, IsSome}
use Rattle.std.specs.List.{count_by, list_any}
use Rattle.std.specs.BTreeMap.{is_at}
use Rattle.std.specs.Ordering.{is_eq, eq_by_cmp, nat_cmp}
use Rattle.std.specs.Cmp.{IsTotalOrder, both_ways, eq_by_cmp_equiv, nat_cmp_total}
use Rattle.std.specs.Map.{values_of, IsKeyTest, AreApart, KeepsOthers}
use Rattle.std.specs.declared.alloc.Global.{Global}
use Rattle.std.specs.declared.vec.Vec.{Vec}
use Rattle.std.specs.FinMap as map
use Rattle.std.specs.FinMap.{nat_cmp-IsAntisymmetric, entries}
use Rattle.std.proofs.lemmas.Bool.{eqb-true, eq-eqb}
use Rattle.std.proofs.lemmas.Map.Text.{is_eq-slice_cmp}
use Rattle.std.specs.Str.{bytes_eq}
use Rattle.ufs_model.specs.Order.{fd_cmp, path_cmp}
use Rattle.ufs_model.specs.PosixTree.{Fds, is_desc_of, is_number}
use Rattle.ufs_model.specs.declared.data.Desc.{Desc}
use Rattle.ufs_tree.specs.Counted.{CountsByFile, CountsByDir, count_at, file_count, dir_count, KeepsCounts, IsCountedByDesc}
use Rattle.ufs_tree.specs.declared.counts.Counts.{Counts}
use Rattle.ufs_model.proofs.Facts.Lookups.{tied}
use Rattle.ufs_model.proofs.Facts.Orders.{fd_total, fd_same, path_total}
use Rattle.ufs_model.proofs.Facts.Pieces.{same_bytes}
use Rattle.ufs_model.proofs.Facts.Rising.{entries-empty}
use Rattle.ufs_counts.proofs.CountLemmas.{one_if, any-count, count-insert, count-remove, count-replace, count-values}

-- two numbers tie where they are equal
pub number_ties : (a b : ℕ) → eq_by_cmp nat_cmp a b ≡ eqb b a
number_ties a b =
    both_ways (eq_by_cmp nat_cmp a b) (eqb b a)
    (λ e. eq-eqb b a (sym (nat_cmp-IsAntisymmetric a b (tied (nat_cmp a b) e))))
    (λ e. ap (eq_by_cmp nat_cmp a) (eqb-true b a e) ∙ (eq_by_cmp_equiv nat_cmp_total).refl a)

-- and so do two paths
pub path_ties : (a b : List ℕ) → eq_by_cmp path_cmp a b ≡ bytes_eq b a
path_ties a b = (eq_by_cmp_equiv path_total).symm a b ∙ is_eq-slice_cmp b a

-- ---- one count more or less

module _ {K J : Type 0} (R : J → J → Ordering) (key : K → J) (o : IsTotalOrder R) (test : J → J → Bool) (ties : (a b : J) → eq_by_cmp R a b ≡ test b a) (same : (a b : J) → test a b ≡ true → a ≡ b) where
  abbrev at : J → K → Bool
  at j = is_at (λ (k : K). R j (key k))

  abbrev by_key : K → K → Bool
  by_key = eq_by_cmp (λ (a b : K). R (key a) (key b))

  finds_one : (j : J) → IsKeyTest by_key (at j)
  finds_one j x y e = ap is_eq (o.congr j (key x) (key y) (tied (R j (key x)) e))

  finds_apart : (j i : J) → test j i ≡ false → AreApart (at j) (at i)
  finds_apart j i e k found = ties i (key k) ∙ ap (λ x. test x i) (same (key k) j (sym (ties j (key k)) ∙ found)) ∙ e

  one_more : (old new : Counts K) (j : J) → count_at (at j) new ≡ count_at (at j) old + 1 → KeepsCounts by_key (at j) old new → (i : J) → count_at (at i) new ≡ count_at (at i) old + cond (test j i) 1 0
  one_more old new j more others i = by (test j i) refl
    where
      by : (b : Bool) → test j i ≡ b → count_at (at i) new ≡ count_at (at i) old + cond b 1 0
      by true e = subst (λ (i : J). count_at (at i) new ≡ count_at (at i) old + 1) (same j i e) more
      by false e = let stays = others (at i) (finds_one i) (finds_apart j i e) in omega (arith, stays)

  one_less : (old new : Counts K) (j : J) → count_at (at j) new ≡ count_at (at j) old - 1 → KeepsCounts by_key (at j) old new → (i : J) → count_at (at i) new ≡ count_at (at i) old - cond (test j i) 1 0
  one_less old new j less others i = by (test j i) refl
    where
      by : (b : Bool) → test j i ≡ b → count_at (at i) new ≡ count_at (at i) old - cond b 1 0
      by true e = subst (λ (i : J). count_at (at i) new ≡ count_at (at i) old - 1) (same j i e) less
      by false e = let stays = others (at i) (finds_one i) (finds_apart j i e) in omega (arith, stays)

-- of a file
pub file_more : (old new : CountsByFile) (f : ℕ) → file_count new f ≡ file_count old f + 1 → KeepsCounts (eq_by_cmp nat_cmp) (is_at (nat_cmp f)) old new → (g : ℕ) → file_count new g ≡ file_count old g + cond (eqb f g) 1 0
file_more = one_more nat_cmp (λ k. k) nat_cmp_total eqb number_ties eqb-true

pub file_less : (old new : CountsByFile) (f : ℕ) → file_count new f ≡ file_count old f - 1 → KeepsCounts (eq_by_cmp nat_cmp) (is_at (nat_cmp f)) old new → (g : ℕ) → file_count new g ≡ file_count old g - cond (eqb f g) 1 0
file_less = one_less nat_cmp (λ k. k) nat_cmp_total eqb number_ties eqb-true

-- of a directory
abbrev dirs_tie : Vec ℕ Global → Vec ℕ Global → Bool
dirs_tie = eq_by_cmp (λ a b. path_cmp a.items b.items)

pub dir_more : (old new : CountsByDir) (d : List ℕ) → dir_count new d ≡ dir_count old d + 1 → KeepsCounts dirs_tie (is_at (λ (k : Vec ℕ Global). path_cmp d k.items)) old new → (g : List ℕ) → dir_count new g ≡ dir_count old g + cond (bytes_eq d g) 1 0
dir_more = one_more path_cmp (λ (k : Vec ℕ Global). k.items) path_total bytes_eq path_ties same_bytes

pub dir_less : (old new : CountsByDir) (d : List ℕ) → dir_count new d ≡ dir_count old d - 1 → KeepsCounts dirs_tie (is_at (λ (k : Vec ℕ Global). path_cmp d k.items)) old new → (g : List ℕ) → dir_count new g ≡ dir_count old g - cond (bytes_eq d g) 1 0
dir_less = one_less path_cmp (λ (k : Vec ℕ Global). k.items) path_total bytes_eq path_ties same_bytes

-- a map that keeps the other values keeps their counts
pub others_keep : {K : Type 0} (eq : K → K → Bool) (test : K → Bool) (old new : Counts K) → KeepsOthers eq test old.entries.entries new.entries.entries → KeepsCounts eq test old new
unfolding KeepsOthers
others_keep eq test old new keeps other key apart = ap (λ (o : Option ℕ). unwrap_or o 0) (keeps other key apart)

-- a count above 0 is there
pub counted_there : (found : Option ℕ) (n : ℕ) → n ≡ unwrap_or found 0 → 2 ≤ n → IsSome found
counted_there None n is several = absurd (omega arith)
counted_there (Some m) n is several = refl

-- ---- descriptors

abbrev opens_of : Fds → ℕ → ℕ
opens_of fds f = count_by (is_desc_of f) (map.values fds)

module _ (fds : Fds) (opens : CountsByFile) (counted : IsCountedByDesc fds opens) where
  pub counted_opened : (fds' : Fds) (opens' : CountsByFile) (key : ℕ × ℕ) (d : Desc) → map.get fds key ≡ None → fds' ≡ map.insert fds key d
      → ((f : ℕ) → file_count opens' f ≡ file_count opens f + cond (is_number f d.file) 1 0) → IsCountedByDesc fds' opens'
  counted_opened fds' opens' key d none is more f =
      let test : (ℕ × ℕ) × Desc → Bool = λ e. is_desc_of f e.1 in
      let had = count-values (is_desc_of f) (entries fds) in
      let has = ap (λ (m : Fds). opens_of m f) is ∙ count-values (is_desc_of f) (entries (map.insert fds key d)) in
      omega (arith, counted f, more f, had, has, count-insert fd_cmp test fd_total fds key d none)

  pub counted_moved : (fds' : Fds) (key : ℕ × ℕ) (old d : Desc) → map.get fds key ≡ Some old → d.file ≡ old.file → fds' ≡ map.insert fds key d → IsCountedByDesc fds' opens
  counted_moved fds' key old d there same is f =
      let test : (ℕ × ℕ) × Desc → Bool = λ e. is_desc_of f e.1 in
      let had = count-values (is_desc_of f) (entries fds) in
      let has = ap (λ (m : Fds). opens_of m f) is ∙ count-values (is_desc_of f) (entries (map.insert fds key d)) in
      let one : one_if (is_desc_of f) d ≡ one_if (is_desc_of f) old = ap (λ o. cond (is_number f o) 1 0) same in
      omega (arith, counted f, had, has, one, count-replace fd_cmp test fd_total fd_same fds key old d there)

  pub counted_closed : (fds' : Fds) (opens' : CountsByFile) (key : ℕ × ℕ) (d : Desc) → map.get fds key ≡ Some d → fds' ≡ map.remove fds key
      → ((f : ℕ) → file_count opens' f ≡ file_count opens f - cond (is_number f d.file) 1 0) → IsCountedByDesc fds' opens'
  counted_closed fds' opens' key d there is less f =
      let test : (ℕ × ℕ) × Desc → Bool = λ e. is_desc_of f e.1 in
      let had = count-values (is_desc_of f) (entries fds) in
      let has = ap (λ (m : Fds). opens_of m f) is ∙ count-values (is_desc_of f) (entries (map.remove fds key)) in
      omega (arith, counted f, less f, had, has, count-remove fd_cmp test fd_total fd_same fds key d there)

  -- a descriptor of the file is open exactly where its count isn't 0
  pub open_by_count : (f n : ℕ) → n ≡ file_count opens f → ltb 0 n ≡ list_any (is_desc_of f) (map.values fds)
  open_by_count f n is = ap (ltb 0) (is ∙ counted f) ∙ sym (any-count (is_desc_of f) (map.values fds))

pub none_open : (fds : Fds) (opens : CountsByFile) → fds ≡ map.empty → ((test : ℕ → Bool) → count_at test opens ≡ 0) → IsCountedByDesc fds opens
none_open fds opens is none f =
    none (is_at (nat_cmp f)) ∙ sym (ap (λ (m : Fds). opens_of m f) is ∙ ap (λ es. count_by (is_desc_of f) (values_of es)) (entries-empty fd_cmp Desc))
