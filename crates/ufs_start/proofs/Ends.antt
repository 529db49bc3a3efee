-- The blocks of directories lie before where these end.
use Rattle.std.proofs.Common.{◌≡◌, ℕ, ◌*◌, ◌<◌, ◌≤◌, inl, inr, List, [], ◌∷◌, Option, Some, None, map, unwrap_or, ap, sym, subst, arith}
use Rattle.std.specs.Prelude.{min, max, ◌==◌, if◌then◌else◌}
use Rattle.std.specs.List.{fold, range_with_len}
use Rattle.ufs_base.specs.Images.{Image}
use Rattle.ufs_image.specs.Images.{inode_at}
use Rattle.ufs_image.specs.Nodes.{blocks_of}
use Rattle.ufs_image.proofs.Empty.{from_range}
use Rattle.ufs_image.proofs.Holders.{in_inodes}
use Rattle.ufs_image.proofs.Listed.{in_at_place}
use Rattle.ufs_image.proofs.Lists.{IsIn, from_flat_map, in_map}
use Rattle.ufs_layout.specs.Areas.{IsGeometry, all_inodes, sector_count}
use Rattle.ufs_layout.specs.InodeForm.{InodeForm, free_inode}
use Rattle.ufs_layout.specs.declared.geometry.Geometry.{Geometry}
use Rattle.ufs_layout.specs.declared.inode.Extent.{Extent}
use Rattle.ufs_image.specs.Agree.{IsOfDir}
use Rattle.ufs_image.specs.Catalog.{catalog_at}
use Rattle.ufs_start.specs.Ends.{end_of_extent, end_of_extents, end_of_form, end_of_forms}

-- ---- the highest of a list

from_first : {X : Type 0} (f : X → ℕ) (a : ℕ) (xs : List X) → a ≤ fold (λ m y. max m (f y)) a xs
from_first f a [] = omega arith
from_first f a (x ∷ xs) = let rest = from_first f (max a (f x)) xs in omega (arith, rest)

each_below : {X : Type 0} (f : X → ℕ) (a : ℕ) (xs : List X) (x : X) → IsIn x xs → f x ≤ fold (λ m y. max m (f y)) a xs
each_below f a [] x is = absurd is
each_below f a (y ∷ xs) x (inl e) = let same = ap f e in let rest = from_first f (max a (f y)) xs in omega (arith, same, rest)
each_below f a (y ∷ xs) x (inr is) = each_below f (max a (f y)) xs x is

-- ---- blocks

block_before : (o : Option InodeForm) (block : ℕ) → (unwrap_or o (free_inode 0)).kind ≡ 2 → IsIn block (blocks_of (unwrap_or o (free_inode 0))) → block < 65536 → block < end_of_form o
block_before None block dir is small = absurd is
block_before (Some form) block dir is small =
    let from = from_flat_map (λ (e : Extent). range_with_len e.start e.length) form.extents block is in
    let high = (from_range from.0.start from.0.length block from.2).1 in
    let most = each_below end_of_extent 0 form.extents from.0 from.1 in
    subst (λ (k : ℕ). block < (if k == 2 then end_of_extents form.extents else 0)) (sym dir) (omega (arith, high, most, small))

pub used_before : (g : Geometry) → IsGeometry g → (image : Image) (forms : List (Option InodeForm)) (end : ℕ) → forms ≡ map (inode_at g image) (all_inodes g) → min (end_of_forms forms) g.blocks ≤ end
    → (sector : ℕ) → sector < sector_count g → IsOfDir g (catalog_at g image) sector → sector < 8 * end
used_before g limits image forms end are most sector less of =
    let dir = of.dir_block in
    let form = inode_at g image dir.inode in
    let block = of.block in
    let slot = of.of_block.in_block in
    let at = of.of_block.same in
    let few = limits.most_blocks in
    let there = in_at_place block (blocks_of (unwrap_or form (free_inode 0))) dir.place dir.has.there in
    let before : block < end_of_form form = block_before form block dir.dir there (omega (arith, at, less, few)) in
    let among : IsIn form forms = subst (IsIn form) (sym are) (in_map (inode_at g image) (all_inodes g) dir.inode (in_inodes g dir.inode dir.has.in_range)) in
    let highest : end_of_form form ≤ end_of_forms forms = each_below end_of_form 0 forms form among in
    omega (arith, before, highest, most, slot, at, less)
