-- How a table of descriptors is kept: a slot for each number from the lowest on, and a bit for each slot that is used.
use Rattle.std.specs.Prelude.{ℕ, ◌+◌, ◌<◌, ◌≡◌, List, [], ◌∷◌, length, Option, None, Some, is_some, slice_index_or, if◌then◌else◌}
use Rattle.std.specs.Int.{bit_at}
use Rattle.std.specs.Ordering.{nat_cmp}
use Rattle.std.specs.FinMap as map
use Rattle.ufs_base.specs.declared.limits.TheConstants.{FIRST_FD, MAX_FDS}
use Rattle.ufs_model.specs.declared.data.Desc.{Desc}

-- what stands in the slots, by its number; the first slot has this number
abbrev pub entries_from : ℕ → List (Option Desc) → List (ℕ × Desc)
entries_from fd [] = []
entries_from fd (None ∷ slots) = entries_from (fd + 1) slots
entries_from fd (Some desc ∷ slots) = (fd, desc) ∷ entries_from (fd + 1) slots

-- the first slot is that of the lowest descriptor
unfoldable pub table_of : List (Option Desc) → map.FinMap nat_cmp Desc
table_of slots = map.from_entries (entries_from FIRST_FD slots)

-- each used slot has its bit
pub record AreMarked (used : ℕ) (slots : List (Option Desc)) : Type 0 where
  pub count : length slots ≡ MAX_FDS
  pub bits : (k : ℕ) → k < MAX_FDS → bit_at used k ≡ (if is_some (slice_index_or slots k None) then 1 else 0)
