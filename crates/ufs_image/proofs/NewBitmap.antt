-- The bits of a new image: a block is marked where it lies before the data area.
use Rattle.std.proofs.Common.{ℕ, ◌≡◌, ◌+◌, ◌-◌, ◌*◌, ◌/◌, ◌%◌, ◌^◌, ◌<◌, ◌≤◌, ◌⊎◌, inl, inr, Bool, true, false, refl, sym, ap, ◌∙◌, arith}
use Rattle.std.specs.Prelude.{◌==◌, nat_lt, nat_le, if◌then◌else◌}
use Rattle.std.specs.List.{range_with_len, list_all}
use Rattle.std.proofs.lemmas.Bool.Decides.{nat_tests, leb_tells}
use Rattle.std.proofs.lemmas.List.FromFn.{get_or-map-range_with_len}
use Rattle.ufs_layout.specs.Words.{byte_at}
use Rattle.ufs_image.specs.Damage.{same_bool}
use Rattle.ufs_image.specs.Formatted.{byte_below, bitmap_below}
use Rattle.ufs_layout.proofs.Ranges.{below-list_all}

same_bools : (a b : Bool) → same_bool a b ≡ true → a ≡ b
same_bools true true e = refl
same_bools true false e = sym e
same_bools false true e = e
same_bools false false e = refl

abbrev is_low : ℕ → ℕ → Bool
is_low n k = same_bool ((2 ^ n - 1) / 2 ^ k % 2 == 1) (nat_lt k n)

all_low : list_all (λ n. list_all (is_low n) (range_with_len 0 8)) (range_with_len 0 9) ≡ true
all_low = refl

-- the bit k of the number that has its lowest n bits set
low_bit : (n k : ℕ) → n < 9 → k < 8 → ((2 ^ n - 1) / 2 ^ k % 2 == 1) ≡ nat_lt k n
low_bit n k small less = same_bools _ _ (below-list_all (is_low n) 8 (below-list_all (λ n. list_all (is_low n) (range_with_len 0 8)) 9 all_low n small) k less)

-- the bit of a block in its byte
byte_bit : (used b : ℕ) → (byte_below used (b / 8) / 2 ^ (b % 8) % 2 == 1) ≡ nat_lt b used
byte_bit used b = by_test (leb_tells (8 * (b / 8 + 1)) used)
  where
    at_byte : (x : ℕ) → byte_below used (b / 8) ≡ x → (byte_below used (b / 8) / 2 ^ (b % 8) % 2 == 1) ≡ (x / 2 ^ (b % 8) % 2 == 1)
    at_byte x e = ap (λ y. y / 2 ^ (b % 8) % 2 == 1) e

    all_used : 8 * (b / 8 + 1) ≤ used → nat_lt (b % 8) 8 ≡ nat_lt b used
    all_used h = grind (arith, nat_tests, h)

    some_used : used < 8 * (b / 8 + 1) → nat_lt (b % 8) (used - 8 * (b / 8)) ≡ nat_lt b used
    some_used h = grind (arith, nat_tests, h)

    by_test : ((nat_le (8 * (b / 8 + 1)) used ≡ true) × (8 * (b / 8 + 1) ≤ used)) ⊎ ((nat_le (8 * (b / 8 + 1)) used ≡ false) × (used < 8 * (b / 8 + 1))) → (byte_below used (b / 8) / 2 ^ (b % 8) % 2 == 1) ≡ nat_lt b used
    by_test (inl whole) = at_byte 255 (ap (λ t. if t then 255 else 2 ^ (used - 8 * (b / 8)) - 1) whole.0) ∙ low_bit 8 (b % 8) (omega arith) (omega arith) ∙ all_used whole.1
    by_test (inr part) =
        at_byte (2 ^ (used - 8 * (b / 8)) - 1) (ap (λ t. if t then 255 else 2 ^ (used - 8 * (b / 8)) - 1) part.0)
        ∙ low_bit (used - 8 * (b / 8)) (b % 8) (omega arith) (omega arith) ∙ some_used part.1

-- So a block is marked exactly where it lies below the first free one.
pub bitmap_bit : (used b : ℕ) → (byte_at (b / 8 % 512) (bitmap_below used (b / 4096)) / 2 ^ (b % 8) % 2 == 1) ≡ nat_lt b used
bitmap_bit used b = ap (λ x. x / 2 ^ (b % 8) % 2 == 1) (get_or-map-range_with_len (byte_below used) (512 * (b / 4096)) 512 (b / 8 % 512) (b / 8) 0 (omega arith) (omega arith)) ∙ byte_bit used b
