-- A set of blocks as words of 64 bits, the lowest block first.
use Rattle.std.specs.Prelude.{ℕ, ◌*◌, ◌/◌, ◌%◌, ◌==◌, Bool, List, length, filter, slice_index, refl}
use Rattle.std.specs.Int.{bit_at}
use Rattle.std.specs.Coded.{Coded, code_by, coded×, coded_ℕ}
use Rattle.std.specs.FinSet as set
use Rattle.ufs_extent.specs.Runs.{blocks_from}
use Rattle.ufs_bitmap.specs.Blocks.{BlockSet}

-- whether the block's bit is 1
abbrev pub is_set : List ℕ → ℕ → Bool
is_set words b = bit_at (slice_index words (b / 64)) (b % 64) == 1

unfoldable pub members_of : List ℕ → BlockSet
members_of words = set.from_list (filter (is_set words) (blocks_from 0 (64 * length words)))

-- what words stand for: the set, and the number above each block that they have room for
pub record Members : Type 0 where
  pub limit : ℕ
  pub blocks : BlockSet

-- stored as the pair of its parts
abbrev pub members_code : Coded Members
members_code = code_by (ℕ × BlockSet) (coded× coded_ℕ (set.code coded_ℕ)) (λ m. (m.limit, m.blocks)) (λ p. record { limit = p.0; blocks = p.1 }) (λ _. refl)
