-- The bits of the bitmap, sector by sector and block by block.
use Rattle.std.proofs.Common.{◌≡◌, ℕ, ◌+◌, List, ◌++◌, map, ap, sym, ◌∙◌, append_assoc}
use Rattle.std.specs.List.{range_with_len}
use Rattle.std.proofs.lemmas.List.{map-append}
use Rattle.ufs_base.specs.Images.{Image}
use Rattle.ufs_layout.specs.declared.geometry.Geometry.{Geometry}
use Rattle.ufs_image.specs.Nodes.{Node}
use Rattle.ufs_image.specs.Damage.{Damage, BitmapDiffers, differing}
use Rattle.ufs_damage.proofs.Bits.{bits_join}

module _ (g : Geometry) (image : Image) (nodes : List Node) where
  -- a range of bits behind those before it
  pub bits_behind : (a m b n all : ℕ) (old now next : List Damage) → b ≡ a + m → all ≡ m + n
      → now ≡ old ++ map BitmapDiffers (differing g image nodes (range_with_len a m)) → next ≡ now ++ map BitmapDiffers (differing g image nodes (range_with_len b n))
      → next ≡ old ++ map BitmapDiffers (differing g image nodes (range_with_len a all))
  bits_behind a m b n all old now next from long so_far put =
      put ∙ ap (λ l. l ++ map BitmapDiffers (differing g image nodes (range_with_len b n))) so_far
      ∙ append_assoc old (map BitmapDiffers (differing g image nodes (range_with_len a m))) (map BitmapDiffers (differing g image nodes (range_with_len b n)))
      ∙ ap (λ k. old ++ (map BitmapDiffers (differing g image nodes (range_with_len a m)) ++ map BitmapDiffers (differing g image nodes (range_with_len k n)))) from
      ∙ ap (λ l. old ++ l) (sym (map-append BitmapDiffers (differing g image nodes (range_with_len a m)) (differing g image nodes (range_with_len (a + m) n)))
      ∙ ap (map BitmapDiffers) (sym (bits_join g image nodes a m n)) ∙ ap (λ k. map BitmapDiffers (differing g image nodes (range_with_len a k))) (sym long))
