-- That each content of a disk is 512 bytes, and how it stays so.
use Rattle.std.specs.Prelude.{◌≡◌, ◌≤◌, ℕ, zero, suc, ◌+◌, ◌*◌, List, [], ◌∷◌, length, take, drop}
use Rattle.std.specs.List.{AllByRecursion}
use Rattle.std.proofs.Common.{lit<, ⊎_elim, sym, ap, subst, arith, length-drop}
use Rattle.std.proofs.lemmas.List.{length-take-le, drop_all}
use Rattle.ufs_base.specs.Images.{IsSector, IsBytes}
use Rattle.ufs_disk.specs.Disk.{IsWhole, pieces}
use Rattle.ufs_disk.specs.Bytes.{image_of, settled_on}

-- a part of some bytes
pub take_small : (n : ℕ) (bytes : List ℕ) → IsBytes bytes → IsBytes (take n bytes)
take_small zero bytes small k = lit< tt
take_small (suc n) [] small k = small k
take_small (suc n) (b ∷ bytes) small zero = small zero
take_small (suc n) (b ∷ bytes) small (suc k) = take_small n bytes (λ i. small (suc i)) k

pub drop_small : (n : ℕ) (bytes : List ℕ) → IsBytes bytes → IsBytes (drop n bytes)
drop_small zero bytes small = small
drop_small (suc n) [] small = small
drop_small (suc n) (b ∷ bytes) small = drop_small n bytes (λ i. small (suc i))

pub sector_within : (bytes : List ℕ) (sector : ℕ) → IsBytes bytes → 512 * (sector + 1) ≤ length bytes → IsSector (image_of bytes sector)
sector_within bytes sector small fits = record {
  sized = length-take-le 512 (drop (512 * sector) bytes) (omega (arith, length-drop (512 * sector) bytes));
  in_range = take_small 512 (drop (512 * sector) bytes) (drop_small (512 * sector) bytes small);
}

-- a disk on which nothing is pending
pub begun_whole : (bytes : List ℕ) (size : ℕ) → IsBytes bytes → length bytes ≡ 512 * size → IsWhole size (settled_on (image_of bytes))
begun_whole bytes size small sized = record {
  within = λ sector lt content among. ⊎_elim
      (λ is. subst IsSector (sym is) (sector_within bytes sector small (omega (arith, sized))))
      (λ none. absurd none) among;
  beyond = λ sector ge. ap (λ (b : List ℕ). take 512 b ∷ []) (drop_all (512 * sector) bytes (omega (arith, sized)));
}

pub pieces_whole : (n : ℕ) (bytes : List ℕ) → IsBytes bytes → length bytes ≡ 512 * n → AllByRecursion IsSector (pieces n bytes)
pieces_whole zero bytes small sized = tt
pieces_whole (suc n) bytes small sized = (
  record { sized = length-take-le 512 bytes (omega arith); in_range = take_small 512 bytes small },
  pieces_whole n (drop 512 bytes) (drop_small 512 bytes small) (omega (arith, length-drop 512 bytes)),
)
