-- The sectors of one block of bytes.
use Rattle.std.proofs.Common.{◌≡◌, ℕ, ◌+◌, ◌-◌, ◌*◌, ◌<◌, ◌≤◌, List, ◌++◌, length, take, drop, replicate, get_or, refl, sym, ◌∙◌, ap, arith, length-drop}
use Rattle.std.specs.Prelude.{map}
use Rattle.std.specs.List.{range_with_len}
use Rattle.std.proofs.lemmas.List.{ext_get_or, get_or-take, get_or-drop, length-take-le, take-append-le, take_all, drop-replicate, take-replicate}
use Rattle.std.proofs.lemmas.List.FromFn.{length-map-range_with_len, get_or-map-range_with_len}
use Rattle.std.proofs.lemmas.Slice.{drop-append-drop}
use Rattle.std.specs.Prelude.{EachIndex}
use Rattle.ufs_layout.specs.Areas.{first_of_inodes, first_of_data}
use Rattle.ufs_layout.specs.InodeForm.{inode_bytes}
use Rattle.ufs_image.specs.Formatted.{byte_below, bitmap_below, new_root}
use Rattle.ufs_layout.specs.declared.geometry.Geometry.{Geometry}
use Rattle.ufs_recover.specs.Tables.{IsTableBlock}

-- of a block that has f of each place
pub sector_of_fn : (f : ℕ → ℕ) (bytes : List ℕ) (first m n a : ℕ) → ((k : ℕ) → k < length bytes → get_or bytes k 0 ≡ f (first + k)) → m + n ≤ length bytes → first + m ≡ a
    → take n (drop m bytes) ≡ map f (range_with_len a n)
sector_of_fn f bytes first m n a is fits at = ext_get_or 0 (take n (drop m bytes)) (map f (range_with_len a n)) (long ∙ sym (length-map-range_with_len f a n)) same
  where
    long : length (take n (drop m bytes)) ≡ n
    long = length-take-le n (drop m bytes) (omega (arith, length-drop m bytes))

    same : (i : ℕ) → i < length (take n (drop m bytes)) → get_or (take n (drop m bytes)) i 0 ≡ get_or (map f (range_with_len a n)) i 0
    same i lt =
        let within : i < n = omega (arith, long) in
        get_or-take n (drop m bytes) i 0 within ∙ get_or-drop m bytes i 0 ∙ is (m + i) (omega arith)
        ∙ sym (get_or-map-range_with_len f a n i (first + (m + i)) 0 within (omega arith))

-- of zeros
pub sector_of_zeros : (long m : ℕ) → m + 512 ≤ long → take {A = ℕ} 512 (drop m (replicate long 0)) ≡ replicate {A = ℕ} 512 0
sector_of_zeros long m fits = ap (take {A = ℕ} 512) (drop-replicate m long 0) ∙ take-replicate 512 (long - m) 0 (omega arith)

-- the first one, put in front of what lies behind it
pub sector_in_front : (front rest : List ℕ) → length front ≡ 512 → take 512 (drop 0 (front ++ rest)) ≡ front
sector_in_front front rest sized = take-append-le 512 front rest (omega arith) ∙ take_all 512 front (omega arith)

pub sector_behind : (front bytes : List ℕ) (m : ℕ) → length front ≡ 512 → 512 ≤ m → take 512 (drop m (front ++ drop 512 bytes)) ≡ take 512 (drop m bytes)
sector_behind front bytes m sized behind = ap (take 512) (drop-append-drop 512 bytes front m behind sized)

-- ---- the blocks of the tables

pub bitmap_block : (g : Geometry) (block used : ℕ) (bytes : List ℕ) → used ≡ first_of_data g → 1 ≤ block → block < first_of_inodes g → length bytes ≡ 4096
    → EachIndex bytes (λ k. get_or bytes k 0 ≡ byte_below used (4096 * (block - 1) + k)) → IsTableBlock g block bytes
bitmap_block g block used bytes same from below sized is = record {
  sectors = λ i lt. record {
    bitmap = λ here. sector_of_fn (byte_below used) bytes (4096 * (block - 1)) (512 * i) 512 (512 * (8 * block + i - 8)) is (omega arith) (omega arith) ∙ ap (λ u. bitmap_below u (8 * block + i - 8)) same;
    root = λ at. absurd (omega arith);
    rest = λ past. absurd (omega arith);
  };
}

pub empty_block : (g : Geometry) (block : ℕ) (bytes : List ℕ) → first_of_inodes g < block → bytes ≡ replicate 4096 0 → IsTableBlock g block bytes
empty_block g block bytes behind is = record {
  sectors = λ i lt. record {
    bitmap = λ here. absurd (omega arith);
    root = λ at. absurd (omega arith);
    rest = λ past. ap (λ (b : List ℕ). take 512 (drop (512 * i) b)) is ∙ sector_of_zeros 4096 (512 * i) (omega arith);
  };
}

root_sized : length (inode_bytes new_root) ≡ 512
root_sized = refl

pub root_block : (g : Geometry) (block : ℕ) (bytes zeros : List ℕ) → block ≡ first_of_inodes g → zeros ≡ replicate 4096 0 → bytes ≡ inode_bytes new_root ++ drop 512 zeros → IsTableBlock g block bytes
root_block g block bytes zeros at are is = record {
  sectors = λ i lt. record {
    bitmap = λ here. absurd (omega arith);
    root = λ here.
        let first : i ≡ 0 = omega arith in
        ap (λ n. take 512 (drop (512 * n) bytes)) first ∙ ap (take 512) is ∙ sector_in_front (inode_bytes new_root) (drop 512 zeros) root_sized;
    rest = λ past.
        ap (λ (b : List ℕ). take 512 (drop (512 * i) b)) is ∙ sector_behind (inode_bytes new_root) zeros (512 * i) root_sized (omega arith)
        ∙ ap (λ (b : List ℕ). take 512 (drop (512 * i) b)) are ∙ sector_of_zeros 4096 (512 * i) (omega arith);
  };
}
