-- Which births a server of the names knows as committed.
use Rattle.std.specs.Prelude.{ℕ, ◌≡◌, ◌≤◌, ◌<◌, true, IsSome}
use Rattle.std.specs.FinMap as fin
use Rattle.std.specs.FinSet as set
use Rattle.ufs_joint.specs.Cells.{NamesCell}

-- Those of files with lower numbers than this: the birth of each live one of them is committed, and that of no other file is.
pub record KnowsBirths (reached : ℕ) (c : NamesCell) : Type 0 where
  pub below : reached ≤ c.value.next
  pub live : (file : ℕ) → file < reached → IsSome (fin.get c.value.held file) → set.contains c.named file ≡ true
  pub named : (file : ℕ) → set.contains c.named file ≡ true → file < reached
