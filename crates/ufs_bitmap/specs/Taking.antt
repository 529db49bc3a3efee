-- Blocks that a pool gives and gets back.
use Rattle.std.specs.Prelude.{◌≡◌, ℕ, ◌-◌, ◌≤◌, List, [], ◌∷◌, nat_eq, Bool, false, true}
use Rattle.std.specs.List.{IsDistinct}
use Rattle.std.specs.Ordering.{nat_cmp}
use Rattle.std.specs.FinSet as set
use Rattle.ufs_extent.specs.declared.Run.{Run}
use Rattle.ufs_extent.specs.Runs.{IsRun, blocks_of}
use Rattle.ufs_bitmap.specs.Blocks.{BlockSet, IsLowestRun, run_set}

-- A pool that is asked for so many blocks gives these runs in turn, each as `take` gives it; then it has these blocks,
-- and so many are still wanted.
abbrev pub Takes : BlockSet → ℕ → List Run → BlockSet → ℕ → Type 0
Takes before want [] after left = (before ≡ after) × (want ≡ left)
Takes before want (r ∷ rs) after left = (1 ≤ want) × (IsRun r × (IsLowestRun before want r × Takes (set.difference before (run_set r)) (want - r.length) rs after left))

-- the blocks of runs, as a set
abbrev pub set_of : List Run → BlockSet
set_of runs = set.from_list (blocks_of runs)

-- the list has the block
abbrev pub has : List ℕ → ℕ → Bool
has blocks b = set.contains (set.from_list {R = nat_cmp} blocks) b

-- No block of the list is in the pool, and none stands twice in it.
pub record IsApart (pool : BlockSet) (blocks : List ℕ) : Type 0 where
  pub absent : (b : ℕ) → has blocks b ≡ true → set.contains pool b ≡ false
  pub once : IsDistinct nat_eq blocks

-- A pool that is asked for so many blocks has but one way to give them.
abbrev pub TakesOneWay : Type 0
TakesOneWay = (before : BlockSet) (want : ℕ) (runs : List Run) (after : BlockSet) (others : List Run) (rest : BlockSet)
    → Takes before want runs after 0 → Takes before want others rest 0 → (runs ≡ others) × (after ≡ rest)
