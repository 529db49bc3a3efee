-- What was read of a disk into its place among bytes.
use Rattle.std.proofs.Common.{◌≡◌, ℕ, zero, suc, ◌+◌, ◌*◌, ◌-◌, ◌/◌, ◌<◌, ◌≤◌, List, length, take, drop, ap, sym, ◌∙◌, subst, arith}
use Rattle.std.proofs.lemmas.List.{take_at}
use Rattle.ufs_base.specs.Images.{Image, IsBytes, IsSector}
use Rattle.ufs_disk.specs.Bytes.{image_of}
use Rattle.ufs_disk.specs.Disk.{IsWhole, State, bytes_from, overwritten, pieces, sectors_of, seen}
use Rattle.ufs_disk.specs.Whole.{sector_within}
use Rattle.ufs_disk.proofs.Flat.{drop_front, length-pieces, pieces_at}
use Rattle.ufs_disk.proofs.Images.{put_all_below, put_all_within, seen_is_image}

pieces_are : (d : Image) (s n : ℕ) → ((i : ℕ) → i < n → length (d (s + i)) ≡ 512) → (i : ℕ) → i < n → take 512 (drop (512 * i) (bytes_from d s n)) ≡ d (s + i)
pieces_are d s zero long i less = absurd (omega (arith, less))
pieces_are d s (suc n) long zero less =
    let here : length (d s) ≡ 512 = subst (λ m. length (d m) ≡ 512) (omega arith) (long 0 (omega arith)) in
    take_at (d s) (bytes_from d (s + 1) n) 512 here ∙ ap d (omega arith)
pieces_are d s (suc n) long (suc i) less =
    let here : length (d s) ≡ 512 = subst (λ m. length (d m) ≡ 512) (omega arith) (long 0 (omega arith)) in
    let moved : (k : ℕ) → s + suc k ≡ s + 1 + k = λ k. omega arith in
    ap (take 512) (drop_front (d s) (bytes_from d (s + 1) n) (512 * suc i) (512 * i) (omega (arith, here)))
    ∙ pieces_are d (s + 1) n (λ k lt. subst (λ m. length (d m) ≡ 512) (moved k) (long (suc k) (omega (arith, lt)))) i (omega (arith, less))
    ∙ ap d (sym (moved i))

-- sectors that were put among those of an image
pub put_there : (d : Image) (bytes : List ℕ) (sector n : ℕ) → length bytes ≡ 512 * n → (i : ℕ) → i < n → overwritten sector bytes d (sector + i) ≡ image_of bytes i
put_there d bytes sector n size i less =
    let m : ℕ = length bytes / 512 in
    let count = length-pieces m bytes in
    put_all_within (pieces m bytes) sector i d (omega (arith, size, less, count)) ∙ pieces_at m i bytes (omega (arith, size, less))

pub put_before : (d : Image) (bytes : List ℕ) (sector s : ℕ) → s < sector → overwritten sector bytes d s ≡ d s
put_before d bytes sector s less = put_all_below (sectors_of bytes) sector s d less

-- the sectors of a block that was read into its place
pub block_there : (d old new : Image) (buf : List ℕ) (block : ℕ) → new ≡ overwritten (8 * block) buf old → length buf ≡ 4096 → buf ≡ bytes_from d (8 * block) 8 → ((i : ℕ) → i < 8 → length (d (8 * block + i)) ≡ 512)
    → (s : ℕ) → 8 * block ≤ s → s < 8 * block + 8 → new s ≡ d s
block_there d old new buf block put size are long s low high =
    let i : ℕ = s - 8 * block in
    let is : s ≡ 8 * block + i = omega (arith, low) in
    let less : i < 8 = omega (arith, low, high) in
    ap new is
    ∙ ap (λ (image : Image). image (8 * block + i)) put
    ∙ put_there old buf (8 * block) 8 size i less
    ∙ ap (λ l. take 512 (drop (512 * i) l)) are
    ∙ pieces_are d (8 * block) 8 long i less
    ∙ ap d (sym is)

module _ (size : ℕ) (state : State) (whole : IsWhole size state) where
  -- a disk has whole sectors
  pub sector_there : (s : ℕ) → s < size → IsSector (seen state s)
  sector_there s less = whole.within s less (seen state s) (seen_is_image state s)

  module _ (n : ℕ) (fits : n ≤ size) (bytes : List ℕ) (are : bytes ≡ bytes_from (seen state) 0 n) where
    pub within : (s : ℕ) → s < n → image_of bytes s ≡ seen state s
    within s less =
        ap (λ l. take 512 (drop (512 * s) l)) are
        ∙ pieces_are (seen state) 0 n (λ i lt. (sector_there (0 + i) (omega (arith, lt, fits))).sized) s less
        ∙ ap (seen state) (omega arith)

  -- bytes of as many sectors
  pub lengths_there : (sectors : ℕ) → sectors ≤ size → (bytes : List ℕ) → IsBytes bytes → length bytes ≡ 512 * sectors → (s : ℕ) → s < sectors → length (image_of bytes s) ≡ length (seen state s)
  lengths_there sectors fits bytes small long s less = (sector_within bytes s small (omega (arith, long, less))).sized ∙ sym (sector_there s (omega (arith, less, fits))).sized
