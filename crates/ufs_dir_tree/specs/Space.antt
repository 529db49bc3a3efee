-- Blocks and inodes that come and go.
use Rattle.std.specs.Prelude.{ℕ, ◌≡◌, ◌<◌, List, [], map, true, false}
use Rattle.std.specs.Ordering.{nat_cmp}
use Rattle.std.specs.FinSet as set
use Rattle.ufs_extent.specs.declared.Run.{Run}
use Rattle.ufs_extent.specs.Runs.{appended_all}

abbrev pub one_block : ℕ → Run
one_block b = record { start = b; length = 1 }

-- the extents that blocks lie in: one that follows the block before it is in its extent
abbrev pub extents_of : List ℕ → List Run
extents_of blocks = appended_all [] (map one_block blocks)

-- the set has the number, and none below it
pub record IsLowest (s : set.FinSet nat_cmp) (n : ℕ) : Type 0 where
  pub held : set.contains s n ≡ true
  pub lowest : (q : ℕ) → q < n → set.contains s q ≡ false

-- the lowest number has gone out of the set
pub record TakesLowest (old new : set.FinSet nat_cmp) (n : ℕ) : Type 0 where
  pub lowest : IsLowest old n
  pub left : new ≡ set.remove old n
