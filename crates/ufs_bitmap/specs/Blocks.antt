-- Sets of blocks.
use Rattle.std.specs.Prelude.{◌≡◌, ℕ, ◌<◌, ◌≤◌, false, true}
use Rattle.std.specs.Ordering.{nat_cmp}
use Rattle.std.specs.FinSet as set
use Rattle.ufs_extent.specs.declared.Run.{Run}
use Rattle.ufs_extent.specs.Runs.{blocks_in, end_of}

abbrev pub BlockSet : Type 0
BlockSet = set.FinSet nat_cmp

abbrev pub run_set : Run → BlockSet
run_set r = set.from_list (blocks_in r)

-- the set has each block of the run
abbrev pub HoldsAll : BlockSet → Run → Type 0
HoldsAll s r = (b : ℕ) → r.start ≤ b → b < end_of r → set.contains s b ≡ true

-- the set has no block of the run
abbrev pub HoldsNone : BlockSet → Run → Type 0
HoldsNone s r = (b : ℕ) → r.start ≤ b → b < end_of r → set.contains s b ≡ false

-- the run begins with the lowest block of the set and goes on while blocks follow, up to so many
pub record IsLowestRun (s : BlockSet) (want : ℕ) (r : Run) : Type 0 where
  pub held : HoldsAll s r
  pub lowest : (b : ℕ) → b < r.start → set.contains s b ≡ false
  pub at_most : r.length ≤ want
  pub goes_on : r.length < want → set.contains s (end_of r) ≡ false
