-- A server's pool, and the hand of the pool's cell.
use Rattle.std.specs.Prelude.{ℕ, ◌≡◌, ◌<◌, ◌≤◌, true, [], ◌∷◌, Option, Some, None}
use Rattle.std.specs.FinSet as set
use Rattle.ufs_bitmap.specs.Blocks.{BlockSet}
use Rattle.ufs_joint.specs.Cells.{View}
use Rattle.ufs_turns.specs.Lent.{AreTold, free_in}

-- how many blocks a pool has at rest, at most
abbrev pub most_at_rest : ℕ
most_at_rest = 64

-- It has nothing.
pub record HasNone (v : View) : Type 0 where
  pub clients : v.clients ≡ []
  pub asked : v.asked ≡ []
  pub files : v.files ≡ []
  pub pools : v.pools ≡ []
  pub names : v.names ≡ []
  pub store : v.store ≡ []

-- Each block of one set is of the other.
abbrev pub IsWithin : BlockSet → BlockSet → Type 0
IsWithin some all = (block : ℕ) → set.contains some block ≡ true → set.contains all block ≡ true

-- The pool has each block that was unassigned, where that is told.
abbrev pub HasAllFree : Option View → BlockSet → Type 0
HasAllFree (Some v) pool = IsWithin (free_in v.store) pool
HasAllFree None pool = Unit {0}

-- Between two moments no block is lost and none is made: those that were unassigned or in the one set are unassigned or in the other, where
-- that is told.
abbrev pub AreConserved : Option View → Option View → BlockSet → BlockSet → Type 0
AreConserved before after one other = AreTold before after (λ had has. set.union had one ≡ set.union has other)

-- What is left of a pool is there at rest; where it is more than a pool has then, all of it was given back.
pub record IsAtRest (left behind : BlockSet) : Type 0 where
  pub few : set.len left ≤ most_at_rest → behind ≡ left
  pub many : most_at_rest < set.len left → behind ≡ set.empty
