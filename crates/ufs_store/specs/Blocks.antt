-- Blocks that go between the unassigned ones and those of a server.
use Rattle.std.specs.Prelude.{ℕ, ◌≡◌, ◌+◌, ◌<◌, ◌≤◌, true, false, All, List, min}
use Rattle.std.specs.FinSet as set
use Rattle.ufs_extent.specs.declared.Run.{Run}
use Rattle.ufs_extent.specs.Runs.{blocks_of}
use Rattle.ufs_bitmap.specs.Blocks.{BlockSet}
use Rattle.ufs_bitmap.specs.Space.{Space, IsInside}
use Rattle.ufs_bitmap.specs.Taking.{IsApart}

-- So many of the lowest blocks of one set, or all that it has, went to another.
pub record MovesLowest (want : ℕ) (from kept to gained : BlockSet) : Type 0 where
  pub counted : set.len from ≡ set.len kept + min want (set.len from)
  pub within : (b : ℕ) → set.contains kept b ≡ true → set.contains from b ≡ true
  pub lowest : (b c : ℕ) → set.contains from b ≡ true → set.contains kept b ≡ false → set.contains kept c ≡ true → b < c
  pub given : gained ≡ set.union to (set.difference from kept)

-- The sets have no block together.
abbrev pub AreApart : BlockSet → BlockSet → Type 0
AreApart one other = (b : ℕ) → set.contains one b ≡ true → set.contains other b ≡ false

-- Each block of the set is of the range.
abbrev pub AreInside : Space → BlockSet → Type 0
AreInside s blocks = (b : ℕ) → set.contains blocks b ≡ true → (s.first ≤ b) × (b < s.blocks)

-- The runs are of the range, no block stands in two of them, and none is free.
pub record MayReturn (s : Space) (runs : List Run) : Type 0 where
  pub inside : All (IsInside s) runs
  pub apart : IsApart s.free (blocks_of runs)
