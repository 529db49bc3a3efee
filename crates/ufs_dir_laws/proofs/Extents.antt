-- The blocks of an inode's extents lie in no more extents than it has.
use Rattle.std.proofs.Common.{◌≡◌, ◌≢◌, ℕ, zero, suc, ◌+◌, ◌≤◌, ◌⊎◌, inl, inr, List, [], ◌∷◌, ◌++◌, Some, map, length, ap, refl, ◌∙◌, arith}
use Rattle.std.specs.Prelude.{flat_map}
use Rattle.std.specs.List.{range_with_len}
use Rattle.std.proofs.lemmas.List.{map-append}
use Rattle.std.proofs.lemmas.List.Sums.{fold-append}
use Rattle.ufs_layout.specs.declared.inode.Extent.{Extent}
use Rattle.ufs_extent.specs.declared.Run.{Run}
use Rattle.ufs_extent.specs.Runs.{next_block, appended, appended_all}
use Rattle.ufs_extent.proofs.RunLemmas.{follows_or_not, next_block-appended, length-appended_joins, length-appended_adds}
use Rattle.ufs_dir_tree.specs.Space.{one_block, extents_of}

-- blocks in a row behind the last one
same_extent : (rs : List Run) (start n : ℕ) → next_block rs ≡ Some start → length (appended_all rs (map one_block (range_with_len start n))) ≡ length rs
same_extent rs start zero follows = refl
same_extent rs start (suc n) follows =
    same_extent (appended rs (one_block start)) (start + 1) n (next_block-appended rs (one_block start)) ∙ length-appended_joins rs (one_block start) follows

one_extent : (rs : List Run) (start n : ℕ) → length (appended_all rs (map one_block (range_with_len start n))) ≤ length rs + 1
one_extent rs start zero = omega arith
one_extent rs start (suc n) = by (follows_or_not rs (one_block start)) (same_extent (appended rs (one_block start)) (start + 1) n (next_block-appended rs (one_block start)))
  where
    by : (next_block rs ≡ Some start) ⊎ (next_block rs ≢ Some start)
        → length (appended_all (appended rs (one_block start)) (map one_block (range_with_len (start + 1) n))) ≡ length (appended rs (one_block start))
        → length (appended_all (appended rs (one_block start)) (map one_block (range_with_len (start + 1) n))) ≤ length rs + 1
    by (inl e) same = omega (arith, same, length-appended_joins rs (one_block start) e)
    by (inr e) same = omega (arith, same, length-appended_adds rs (one_block start) e)

abbrev blocks_in : Extent → List ℕ
blocks_in e = range_with_len e.start e.length

more_extents : (rs : List Run) (es : List Extent) → length (appended_all rs (map one_block (flat_map blocks_in es))) ≤ length rs + length es
more_extents rs [] = omega arith
more_extents rs (e ∷ es) =
    let split : map one_block (blocks_in e ++ flat_map blocks_in es) ≡ map one_block (blocks_in e) ++ map one_block (flat_map blocks_in es) = map-append one_block (blocks_in e) (flat_map blocks_in es) in
    let first = one_extent rs e.start e.length in
    let rest = more_extents (appended_all rs (map one_block (blocks_in e))) es in
    let turn = ap (λ bs. length (appended_all rs bs)) split
    ∙ ap (λ (l : List Run). length l) (fold-append appended rs (map one_block (blocks_in e)) (map one_block (flat_map blocks_in es))) in
    omega (arith, first, rest, turn)

pub few_extents : (es : List Extent) → length (extents_of (flat_map blocks_in es)) ≤ length es
few_extents es = let most = more_extents [] es in omega (arith, most)
