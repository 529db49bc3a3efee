-- The free blocks of a range, and the bits that tell the used ones.
use Rattle.std.specs.Prelude.{◌≡◌, ℕ, ◌+◌, ◌*◌, ◌/◌, ◌%◌, ◌<◌, ◌≤◌, ◌&&◌, not, nat_lt, nat_le, ◌==◌, Bool, if◌then◌else◌, List, length, slice_index, refl}
use Rattle.std.specs.Int.{bit_at}
use Rattle.std.specs.Coded.{Coded, code_by, coded×, coded_ℕ}
use Rattle.std.specs.FinSet as set
use Rattle.ufs_extent.specs.declared.Run.{Run}
use Rattle.ufs_extent.specs.Runs.{end_of}
use Rattle.ufs_bitmap.specs.Blocks.{BlockSet}

-- the blocks from `first` up to `blocks`, those of them in `free` are free
pub record Space : Type 0 where
  pub first : ℕ
  pub blocks : ℕ
  pub free : BlockSet

-- the run lies in the range
abbrev pub IsInside : Space → Run → Type 0
IsInside s r = (s.first ≤ r.start) × (end_of r ≤ s.blocks)

-- the block's bit on the disk: 1 where it is used, as those before the range are; 0 past the last block
abbrev pub used_bit : Space → ℕ → ℕ
used_bit s b = if nat_lt b s.blocks && not (set.contains s.free b) then 1 else 0

-- block b is from `first` on and below `end`
abbrev pub is_between : ℕ → ℕ → ℕ → Bool
is_between first end b = nat_le first b && nat_lt b end

-- the bit of block b in the bytes is 0
abbrev pub is_clear : List ℕ → ℕ → Bool
is_clear bytes b = bit_at (slice_index bytes (b / 8)) (b % 8) == 0

-- bit b mod 8 of byte b / 8, least bit first, is that of block b, from byte `from` on
abbrev pub HasBits : Space → ℕ → List ℕ → Type 0
HasBits s from bytes = (b : ℕ) → b < 8 * length bytes → bit_at (slice_index bytes (b / 8)) (b % 8) ≡ used_bit s (8 * from + b)

-- stored as the tuple of its parts
abbrev pub space_code : Coded Space
space_code =
    code_by (ℕ × (ℕ × BlockSet)) (coded× coded_ℕ (coded× coded_ℕ (set.code coded_ℕ))) (λ s. (s.first, (s.blocks, s.free))) (λ p. record { first = p.0; blocks = p.1.0; free = p.1.1 }) (λ _. refl)
