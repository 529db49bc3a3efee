-- The bytes of a file at a place of its blocks.
use Rattle.std.proofs.Common.{◌≡◌, ℕ, zero, suc, ◌+◌, ◌*◌, ◌-◌, ◌<◌, ◌≤◌, ◌⊎◌, inl, inr, List, [], ◌∷◌, ◌++◌, length, take, drop, Some, true, false, ap, sym, refl, ◌∙◌, arith}
use Rattle.std.specs.Prelude.{flat_map, nat_le}
use Rattle.std.specs.List.{slice_get}
use Rattle.std.proofs.lemmas.Bool.Decides.{leb_tells}
use Rattle.std.proofs.lemmas.List.{drop_at, drop-drop, take-take, take_all, take-append-le}
use Rattle.ufs_layout.specs.Areas.{sector_count}
use Rattle.ufs_base.specs.Images.{Image}
use Rattle.ufs_image.specs.Images.{IsImageOf, block_at}
use Rattle.ufs_image.specs.Nodes.{blocks_of}
use Rattle.ufs_image.specs.Opens.{file_bytes}
use Rattle.ufs_layout.specs.declared.geometry.Geometry.{Geometry}
use Rattle.ufs_image.specs.Catalog.{Catalog, HasBlock}
use Rattle.ufs_image.specs.Sound.{IsSoundCatalog}
use Rattle.ufs_image.proofs.Lists.{IsIn}
use Rattle.ufs_image.proofs.Found.{same_some}
use Rattle.ufs_image.proofs.Listed.{in_at_place}
use Rattle.ufs_image.proofs.Holders.{block_in_data}
use Rattle.ufs_image.proofs.Blocks.{block_length}

-- the bytes from a place on begin with its block
from_place : (f : ℕ → List ℕ) (bs : List ℕ) (place b : ℕ) → ((x : ℕ) → IsIn x bs → length (f x) ≡ 4096) → slice_get bs place ≡ Some b → (rest : List ℕ) × (drop (4096 * place) (flat_map f bs) ≡ f b ++ rest)
from_place f [] place b each at = let no = at in cc
from_place f (x ∷ bs) zero b each at = (flat_map f bs, ap (λ y. f y ++ flat_map f bs) (same_some x b at))
from_place f (x ∷ bs) (suc place) b each at =
    let more = from_place f bs place b (λ y is. each y (inr is)) at in
    let far : 4096 * suc place ≡ 4096 + 4096 * place = omega arith in
    (more.0, ap (λ n. drop n (f x ++ flat_map f bs)) far ∙ sym (drop-drop (4096 * place) 4096 (f x ++ flat_map f bs)) ∙ ap (drop (4096 * place)) (drop_at (f x) (flat_map f bs) 4096 (each x (inl refl))) ∙ more.1)

drop-taken : (n m : ℕ) (xs : List ℕ) → drop n (take m xs) ≡ take (m - n) (drop n xs)
drop-taken zero m xs = let at : m - 0 ≡ m = omega arith in ap (λ k. take k xs) (sym at)
drop-taken (suc n) zero xs = let at : 0 - suc n ≡ 0 = omega arith in ap (λ k. take k (drop (suc n) xs)) (sym at)
drop-taken (suc n) (suc m) [] = sym (nothing (suc m - suc n))
  where
    nothing : (k : ℕ) → take {A = ℕ} k [] ≡ []
    nothing zero = refl
    nothing (suc k) = refl
drop-taken (suc n) (suc m) (x ∷ xs) = let at : suc m - suc n ≡ m - n = omega arith in drop-taken n m xs ∙ ap (λ k. take k (drop n xs)) (sym at)

-- at most a block of what a block begins
one_block : (k : ℕ) (x rest : List ℕ) → length x ≡ 4096 → take 4096 (take k (x ++ rest)) ≡ take k x
one_block k x rest sized = by (leb_tells k 4096)
  where
    by : ((nat_le k 4096 ≡ true) × (k ≤ 4096)) ⊎ ((nat_le k 4096 ≡ false) × (4096 < k)) → take 4096 (take k (x ++ rest)) ≡ take k x
    by (inl less) =
        let h = less.1 in
        let front : take k (x ++ rest) ≡ take k x = take-append-le k x rest (omega (arith, h, sized)) in
        ap (take 4096) front ∙ take_all 4096 (take k x) (let most = at_most k x in omega (arith, most, h))
      where
        at_most : (k : ℕ) (x : List ℕ) → length (take k x) ≤ k
        at_most zero x = omega arith
        at_most (suc k) [] = omega arith
        at_most (suc k) (y ∷ x) = let rest = at_most k x in omega (arith, rest)
    by (inr more) =
        let h = more.1 in
        take-take 4096 k (x ++ rest) (omega (arith, h)) ∙ take-append-le 4096 x rest (omega (arith, sized)) ∙ take_all 4096 x (omega (arith, sized)) ∙ sym (take_all k x (omega (arith, sized, h)))

pub block_bytes_of : (sectors : ℕ) (image : Image) (g : Geometry) (c : Catalog) (inode place block : ℕ) → IsImageOf sectors image → sector_count g ≤ sectors → IsSoundCatalog g c → HasBlock g c inode place block
    → take 4096 (drop (4096 * place) (file_bytes image (c.forms inode))) ≡ take ((c.forms inode).size - 4096 * place) (block_at image block)
block_bytes_of sectors image g c inode place block is room sound has =
    let sized : (x : ℕ) → IsIn x (blocks_of (c.forms inode)) → length (block_at image x) ≡ 4096 = λ x there.
    let at = block_in_data g (c.forms inode).extents x (sound.in_data inode has.in_range) there in
    let end = at.1 in
    block_length image sectors is x (omega (arith, end, room)) in
    let from = from_place (block_at image) (blocks_of (c.forms inode)) place block sized has.there in
    ap (take 4096) (drop-taken (4096 * place) (c.forms inode).size (flat_map (block_at image) (blocks_of (c.forms inode))) ∙ ap (take ((c.forms inode).size - 4096 * place)) from.1)
    ∙ one_block ((c.forms inode).size - 4096 * place) (block_at image block) from.0 (sized block (in_at_place block (blocks_of (c.forms inode)) place has.there))
