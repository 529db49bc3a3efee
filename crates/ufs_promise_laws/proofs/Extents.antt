-- The blocks of a directory as extents.
use Rattle.std.proofs.Common.{◌≡◌, ℕ, zero, suc, ◌+◌, ◌*◌, ◌≤◌, ◌<◌, inl, inr, List, [], ◌∷◌, ◌++◌, Bool, true, false, length, map, ap, sym, refl, ◌∙◌, append_assoc, length-append, arith}
use Rattle.std.specs.Prelude.{flat_map, ◌==◌, ◌&&◌, nat_le, if◌then◌else◌}
use Rattle.std.specs.List.{range_with_len, list_all, AllByRecursion}
use Rattle.std.proofs.lemmas.List.{append-nil}
use Rattle.std.proofs.lemmas.Bool.Decides.{nat_tests}
use Rattle.ufs_layout.specs.Areas.{IsGeometry, first_of_data}
use Rattle.ufs_layout.specs.InodeForm.{is_extent, FitsExtent}
use Rattle.ufs_layout.specs.declared.inode.Extent.{Extent}
use Rattle.ufs_layout.specs.declared.geometry.Geometry.{Geometry}
use Rattle.ufs_extent.specs.declared.Run.{Run}
use Rattle.ufs_extent.specs.Runs as run
use Rattle.ufs_extent.specs.Runs.{end_of, blocks_from, appended, appended_all}
use Rattle.ufs_extent.proofs.RunLemmas.{blocks_of-appended, length-blocks_from}
use Rattle.ufs_image.specs.Sound.{IsInData}
use Rattle.ufs_image.proofs.Lists.{IsIn, from_flat_map}
use Rattle.ufs_image.proofs.Empty.{from_range}
use Rattle.ufs_dir_tree.specs.Space.{one_block, extents_of}
use Rattle.ufs_ilog.specs.Deltas as log

abbrev pub blocks_in : Extent → List ℕ
blocks_in e = range_with_len e.start e.length

-- ---- which blocks they are

same_range : (first n : ℕ) → range_with_len first n ≡ blocks_from first n
same_range first zero = refl
same_range first (suc n) = ap (λ xs. first ∷ xs) (same_range (first + 1) n)

same_blocks : (rs : List Run) → flat_map blocks_in (log.extents_of rs) ≡ run.blocks_of rs
same_blocks [] = refl
same_blocks (r ∷ rs) = ap (λ xs. xs ++ flat_map blocks_in (log.extents_of rs)) (same_range r.start r.length) ∙ ap (λ xs. blocks_from r.start r.length ++ xs) (same_blocks rs)

behind : (rs : List Run) (bs : List ℕ) → run.blocks_of (appended_all rs (map one_block bs)) ≡ run.blocks_of rs ++ bs
behind rs [] = sym (append-nil (run.blocks_of rs))
behind rs (b ∷ bs) = behind (appended rs (one_block b)) bs ∙ ap (λ xs. xs ++ bs) (blocks_of-appended rs (one_block b)) ∙ append_assoc (run.blocks_of rs) (b ∷ []) bs

pub blocks_are : (bs : List ℕ) → flat_map blocks_in (log.extents_of (extents_of bs)) ≡ bs
blocks_are bs = same_blocks (extents_of bs) ∙ behind [] bs

-- ---- where they lie

pub record LiesIn (g : Geometry) (block : ℕ) : Type 0 where
  pub from : first_of_data g ≤ block
  pub under : block < g.blocks

pub record IsGoodRun (g : Geometry) (r : Run) : Type 0 where
  pub from : first_of_data g ≤ r.start
  pub end : r.start + r.length ≤ g.blocks
  pub some : 1 ≤ r.length

module _ (g : Geometry) where
  good_appended : (rs : List Run) (r : Run) → AllByRecursion (IsGoodRun g) rs → IsGoodRun g r → AllByRecursion (IsGoodRun g) (appended rs r)
  good_appended [] r all good = (good, tt)
  good_appended (l ∷ []) r all good = by (end_of l == r.start) refl
    where
      by : (b : Bool) → (end_of l == r.start) ≡ b → AllByRecursion (IsGoodRun g) (if b then (record { start = l.start; length = l.length + r.length }) ∷ [] else l ∷ r ∷ [])
      by true e =
          let meets : l.start + l.length ≡ r.start = grind (arith, nat_tests, e) in
          let from = all.0.from in let some = all.0.some in let end = good.end in
          (record { from = from; end = omega (arith, meets, end); some = omega (arith, some) }, tt)
      by false e = (all.0, (good, tt))
  good_appended (l ∷ m ∷ rs) r all good = (all.0, good_appended (m ∷ rs) r all.1 good)

  good_all : (rs : List Run) (bs : List ℕ) → AllByRecursion (IsGoodRun g) rs → ((b : ℕ) → IsIn b bs → LiesIn g b) → AllByRecursion (IsGoodRun g) (appended_all rs (map one_block bs))
  good_all rs [] all each = all
  good_all rs (b ∷ bs) all each =
      let first = each b (inl refl) in let from = first.from in let under = first.under in
      good_all (appended rs (one_block b)) bs (good_appended rs (one_block b) all (record { from = from; end = omega (arith, under); some = omega arith })) (λ x is. each x (inr is))

  in_data : (rs : List Run) → AllByRecursion (IsGoodRun g) rs → AllByRecursion (IsInData g) (log.extents_of rs)
  in_data [] all = tt
  in_data (r ∷ rs) all = (record { start = all.0.from; end = all.0.end }, in_data rs all.1)

  fits : IsGeometry g → (rs : List Run) → AllByRecursion (IsGoodRun g) rs → AllByRecursion FitsExtent (log.extents_of rs)
  fits is [] all = tt
  fits is (r ∷ rs) all = let end = all.0.end in let most = is.most_blocks in (record { start = omega (arith, end, most); length = omega (arith, end, most) }, fits is rs all.1)

  spelled : (rs : List Run) → AllByRecursion (IsGoodRun g) rs → list_all is_extent (log.extents_of rs) ≡ true
  spelled [] all = refl
  spelled (r ∷ rs) all =
      let some = all.0.some in
      let here : nat_le 1 r.length ≡ true = grind (arith, nat_tests, some) in
      ap (λ b. b && list_all is_extent (log.extents_of rs)) here ∙ spelled rs all.1

  module _ (bs : List ℕ) (each : (b : ℕ) → IsIn b bs → LiesIn g b) where
    pub extents_in_data : AllByRecursion (IsInData g) (log.extents_of (extents_of bs))
    extents_in_data = in_data (extents_of bs) (good_all [] bs tt each)

    pub extents_fit : IsGeometry g → AllByRecursion FitsExtent (log.extents_of (extents_of bs))
    extents_fit is = fits is (extents_of bs) (good_all [] bs tt each)

    pub extents_spelled : list_all is_extent (log.extents_of (extents_of bs)) ≡ true
    extents_spelled = spelled (extents_of bs) (good_all [] bs tt each)

  -- and back: the blocks of extents in the data area lie there
  at_extent : (es : List Extent) (e : Extent) → AllByRecursion (IsInData g) es → IsIn e es → IsInData g e
  at_extent [] e all is = absurd is
  at_extent (x ∷ es) e all (inl same) = let here = all.0 in record { start = let at = ap (λ (y : Extent). y.start) same in let from = here.start in omega (arith, at, from); end = let at = ap (λ (y : Extent). y.start + y.length) same in let end = here.end in omega (arith, at, end) }
  at_extent (x ∷ es) e all (inr is) = at_extent es e all.1 is

  pub blocks_lie : (es : List Extent) → AllByRecursion (IsInData g) es → (b : ℕ) → IsIn b (flat_map blocks_in es) → LiesIn g b
  blocks_lie es all b is =
      let at = from_flat_map blocks_in es b is in
      let lies = at_extent es at.0 all at.1 in
      let between = from_range at.0.start at.0.length b at.2 in
      let from = lies.start in let end = lies.end in let low = between.0 in let high = between.1 in
      record { from = omega (arith, from, low); under = omega (arith, end, high) }

pub length_told : (rs : List Run) → length (log.extents_of rs) ≡ length rs
length_told [] = refl
length_told (r ∷ rs) = omega (arith, length_told rs)

-- so many blocks lie in so few extents
module _ (g : Geometry) (bs : List ℕ) (each : (b : ℕ) → IsIn b bs → LiesIn g b) (is : IsGeometry g) where
  counted : (rs : List Run) → AllByRecursion (IsGoodRun g) rs → length (run.blocks_of rs) ≤ 65536 * length rs
  counted [] all = omega arith
  counted (r ∷ rs) all =
      let end = all.0.end in let most = is.most_blocks in
      let rest = counted rs all.1 in
      let first = length-blocks_from r.start r.length in
      let whole = length-append (blocks_from r.start r.length) (run.blocks_of rs) in
      omega (arith, end, most, rest, first, whole)

  pub few_blocks : length bs ≤ 65536 * length (extents_of bs)
  few_blocks = let all = counted (extents_of bs) (good_all g [] bs tt each) in let same = ap (λ (xs : List ℕ). length xs) (behind [] bs) in omega (arith, all, same)
