-- A block of the bitmap is written.
use Rattle.std.proofs.Common.{◌≡◌, ℕ, ◌+◌, ◌-◌, ◌*◌, ◌/◌, ◌%◌, ◌^◌, ◌<◌, ◌≤◌, ◌⊎◌, inl, inr, List, length, take, drop, get_or, Bool, true, false, ap, refl, ◌∙◌, arith}
use Rattle.std.specs.Prelude.{◌==◌, if◌then◌else◌}
use Rattle.std.proofs.lemmas.Bool.{cases_lt}
use Rattle.std.proofs.lemmas.List.{get_or-take, get_or-drop}
use Rattle.ufs_base.specs.Images.{Image}
use Rattle.ufs_disk.specs.Disk.{State, IsImage, IsPartlyWritten, overwritten, sectors_of}
use Rattle.ufs_disk.specs.Moments.{Moments, LeavesOnly}
use Rattle.ufs_disk.proofs.Flat.{length-pieces, pieces_at}
use Rattle.ufs_disk.proofs.Images.{put_all_below, put_all_above, put_all_within}
use Rattle.ufs_disk.proofs.Runs.{goes_on}
use Rattle.ufs_image.specs.Damage.{is_marked}
use Rattle.ufs_layout.specs.Areas.{bitmap_blocks}
use Rattle.ufs_layout.specs.declared.geometry.Geometry.{Geometry}
use Rattle.ufs_recovery.specs.Marks.{bit_of, HasBits, IsMarkedBelow, IsOffBitmap, AgreeOffBitmap, HasAnyBitmap}

one_is : (b : Bool) (n : ℕ) → n ≡ (if b then 1 else 0) → (n == 1) ≡ b
one_is true n e = ap (λ k. k == 1) e
one_is false n e = ap (λ k. k == 1) e

module _ (g : Geometry) (marks : List Bool) (place block : ℕ) (at : block ≡ 1 + place) (within : place < bitmap_blocks g) (bytes : List ℕ) (sized : length bytes ≡ 4096) (has : HasBits marks (32768 * place) bytes) where
  eight : length (sectors_of bytes) ≡ 8
  eight = length-pieces (length bytes / 512) bytes ∙ omega (arith, sized)

  off : (d : Image) (s : ℕ) → IsOffBitmap g s → overwritten (8 * block) bytes d s ≡ d s
  off d s (inl low) = put_all_below (sectors_of bytes) (8 * block) s d (omega (arith, low, at))
  off d s (inr high) = put_all_above (sectors_of bytes) (8 * block) s d (let long = eight in omega (arith, high, at, within, long))

  before : (d : Image) (s : ℕ) → s < 8 * block → overwritten (8 * block) bytes d s ≡ d s
  before d s low = put_all_below (sectors_of bytes) (8 * block) s d low

  inside : (d : Image) (i : ℕ) → i < 8 → overwritten (8 * block) bytes d (8 * block + i) ≡ take 512 (drop (512 * i) bytes)
  inside d i less = put_all_within (sectors_of bytes) (8 * block) i d (let long = eight in omega (arith, long, less)) ∙ pieces_at (length bytes / 512) i bytes (omega (arith, sized, less))

  -- a bit of this block
  marked_here : (d : Image) (b : ℕ) → 32768 * place ≤ b → b < 32768 * (place + 1) → is_marked (overwritten (8 * block) bytes d) b ≡ get_or marks b false
  marked_here d b from under =
      let k = b / 8 - 4096 * place in
      let i = b / 4096 - 8 * place in
      let less : i < 8 = omega (arith, from, under) in
      let sector : 8 * 1 + b / 4096 ≡ 8 * block + i = omega (arith, from, under, at) in
      let in_sector : b / 8 % 512 < 512 = omega arith in
      let in_bytes : 512 * i + b / 8 % 512 ≡ k = omega (arith, from, under) in
      let few : k < length bytes = omega (arith, from, under, sized) in
      let sum : 32768 * place + 8 * k + b % 8 ≡ b = omega (arith, from, under) in
      let byte : get_or (overwritten (8 * block) bytes d (8 * 1 + b / 4096)) (b / 8 % 512) 0 ≡ get_or bytes k 0 =
      ap (λ (s : List ℕ). get_or s (b / 8 % 512) 0) (ap (overwritten (8 * block) bytes d) sector ∙ inside d i less)
      ∙ get_or-take 512 (drop (512 * i) bytes) (b / 8 % 512) 0 in_sector
      ∙ get_or-drop (512 * i) bytes (b / 8 % 512) 0
      ∙ ap (λ n. get_or bytes n 0) in_bytes in
      one_is (get_or marks b false) (get_or (overwritten (8 * block) bytes d (8 * 1 + b / 4096)) (b / 8 % 512) 0 / 2 ^ (b % 8) % 2)
      (ap (λ n. n / 2 ^ (b % 8) % 2) byte ∙ has k (b % 8) few (omega arith) ∙ ap (bit_of marks) sum)

  pub marked_on : (d now : Image) → now ≡ overwritten (8 * block) bytes d → IsMarkedBelow marks (32768 * place) d → IsMarkedBelow marks (32768 * (place + 1)) now
  marked_on d now is below b under = ap (λ (e : Image). is_marked e b) is ∙ by (cases_lt b (32768 * place))
    where
      by : (b < 32768 * place) ⊎ (32768 * place ≤ b) → is_marked (overwritten (8 * block) bytes d) b ≡ get_or marks b false
      by (inl less) =
          let low : 8 * 1 + b / 4096 < 8 * block = omega (arith, less, at) in
          ap (λ (s : List ℕ). get_or s (b / 8 % 512) 0 / 2 ^ (b % 8) % 2 == 1) (before d (8 * 1 + b / 4096) low) ∙ below b less
      by (inr from) = marked_here d b from under

  pub agrees_on : (first d now : Image) → now ≡ overwritten (8 * block) bytes d → AgreeOffBitmap g first d → AgreeOffBitmap g first now
  agrees_on first d now is agree s out = ap (λ (e : Image). e s) is ∙ off d s out ∙ agree s out

  pub any_on : (keeps : Bool) (first old new : Moments) → LeavesOnly keeps (HasAnyBitmap g first.state) first old → LeavesOnly keeps (IsPartlyWritten (8 * block) bytes old.state) old new → LeavesOnly keeps (HasAnyBitmap g first.state) first new
  any_on keeps first old new so_far call = goes_on keeps (HasAnyBitmap g first.state) (IsPartlyWritten (8 * block) bytes old.state) first old new so_far call leads
    where
      leads : (image : Image) → IsPartlyWritten (8 * block) bytes old.state image → HasAnyBitmap g first.state image
      leads image from = record { before = was.before; left = was.left; agrees = λ s out. by s out (from.mixed s) }
        where
          was : HasAnyBitmap g first.state from.before
          was = so_far.after from.before from.left

          by : (s : ℕ) → IsOffBitmap g s → (image s ≡ from.before s) ⊎ (image s ≡ overwritten (8 * block) bytes from.before s) → image s ≡ was.before s
          by s out (inl e) = e ∙ was.agrees s out
          by s out (inr e) = e ∙ off from.before s out ∙ was.agrees s out

pub none_marked : (marks : List Bool) (image : Image) → IsMarkedBelow marks 0 image
none_marked marks image b less = absurd (omega (arith, less))

pub any_first : (g : Geometry) (state : State) (image : Image) → IsImage state image → HasAnyBitmap g state image
any_first g state image left = record { before = image; left = left; agrees = λ s out. refl }
