-- The bits of a sector of the bitmap.
use Rattle.std.proofs.Common.{◌≡◌, ℕ, zero, suc, ◌+◌, ◌*◌, ◌/◌, ◌%◌, ◌^◌, ◌<◌, ◌≤◌, List, ◌++◌, Bool, false, Option, map, ap, sym, refl, ◌∙◌, arith}
use Rattle.std.specs.Prelude.{◌==◌, not, slice_index_or}
use Rattle.std.specs.List.{filter_map, cons_option, range_with_len}
use Rattle.ufs_base.specs.Choices.{some_if}
use Rattle.ufs_base.specs.Images.{Image}
use Rattle.ufs_layout.specs.Words.{byte_at}
use Rattle.ufs_layout.specs.declared.geometry.Geometry.{Geometry}
use Rattle.ufs_image.specs.Nodes.{Node, is_taken}
use Rattle.ufs_image.specs.Damage.{BitmapDiffers, is_marked, same_bool, differing}
use Rattle.ufs_damage.specs.Taken.{AreTaken, bit_of, bit_damage}
use Rattle.std.proofs.lemmas.List.Elements.{filter-append}
use Rattle.ufs_damage.proofs.Lists.{map_filter, range_append}

shifted : {Y : Type 0} (h k : ℕ → Option Y) (a s n : ℕ) → ((i : ℕ) → i < s + n → h i ≡ k (a + i)) → filter_map h (range_with_len s n) ≡ filter_map k (range_with_len (a + s) n)
shifted h k a s zero same = refl
shifted h k a s (suc n) same =
    (λ t. cons_option (same s (omega arith) t) (filter_map h (range_with_len (s + 1) n)))
    ∙ ap (cons_option (k (a + s))) (shifted h k a (s + 1) n (λ i less. same i (omega (arith, less))) ∙ ap (λ m. filter_map k (range_with_len m n)) on)
  where
    on : a + (s + 1) ≡ a + s + 1
    on = omega arith

marked_is : (image : Image) (sector k : ℕ) (bytes : List ℕ) → k < 4096 → image (8 + sector) ≡ bytes → bit_of bytes k ≡ is_marked image (4096 * sector + k)
marked_is image sector k bytes less at =
    ap (λ bs. byte_at (k / 8) bs / 2 ^ (k % 8) % 2 == 1) (sym at)
    ∙ (λ t. byte_at (place t) (image (8 + row t)) / 2 ^ (bit t) % 2 == 1)
  where
    place : k / 8 ≡ (4096 * sector + k) / 8 % 512
    place = omega (arith, less)

    row : sector ≡ (4096 * sector + k) / 4096
    row = omega (arith, less)

    bit : k % 8 ≡ (4096 * sector + k) % 8
    bit = omega (arith, less)

module _ (g : Geometry) (image : Image) (nodes : List Node) where
  pub sector_differs : (marks : List Bool) (sector : ℕ) (bytes : List ℕ) (n : ℕ) → n ≤ 4096 → AreTaken g nodes marks → image (8 + sector) ≡ bytes
      → filter_map (λ k. bit_damage (bit_of bytes k) (slice_index_or marks (4096 * sector + k) false) (4096 * sector + k)) (range_with_len 0 n) ≡ map BitmapDiffers (differing g image nodes (range_with_len (4096 * sector) n))
  sector_differs marks sector bytes n few taken at =
      shifted (λ k. bit_damage (bit_of bytes k) (slice_index_or marks (4096 * sector + k) false) (4096 * sector + k)) (λ b. some_if (not (same_bool (is_marked image b) (is_taken g nodes b))) (BitmapDiffers b)) (4096 * sector) 0 n each
      ∙ ap (λ m. filter_map (λ b. some_if (not (same_bool (is_marked image b) (is_taken g nodes b))) (BitmapDiffers b)) (range_with_len m n)) on
      ∙ sym (map_filter BitmapDiffers (λ b. not (same_bool (is_marked image b) (is_taken g nodes b))) (range_with_len (4096 * sector) n))
    where
      on : 4096 * sector + 0 ≡ 4096 * sector
      on = omega arith

      each : (k : ℕ) → k < 0 + n → bit_damage (bit_of bytes k) (slice_index_or marks (4096 * sector + k) false) (4096 * sector + k) ≡ some_if (not (same_bool (is_marked image (4096 * sector + k)) (is_taken g nodes (4096 * sector + k)))) (BitmapDiffers (4096 * sector + k))
      each k less =
          let low : k < 4096 = omega (arith, less, few) in
          ap (λ b. some_if (not (same_bool b (slice_index_or marks (4096 * sector + k) false))) (BitmapDiffers (4096 * sector + k))) (marked_is image sector k bytes low at)
          ∙ ap (λ b. some_if (not (same_bool (is_marked image (4096 * sector + k)) b)) (BitmapDiffers (4096 * sector + k))) (sym (taken (4096 * sector + k)))

-- bits told one range behind the other
pub bits_join : (g : Geometry) (image : Image) (nodes : List Node) (a m n : ℕ) → differing g image nodes (range_with_len a (m + n)) ≡ differing g image nodes (range_with_len a m) ++ differing g image nodes (range_with_len (a + m) n)
bits_join g image nodes a m n = ap (differing g image nodes) (range_append a m n) ∙ filter-append (λ b. not (same_bool (is_marked image b) (is_taken g nodes b))) (range_with_len a m) (range_with_len (a + m) n)
