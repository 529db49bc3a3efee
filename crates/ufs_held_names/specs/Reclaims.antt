-- What the names dropped comes back.
use Rattle.std.specs.Prelude.{ℕ, ◌≡◌, IsSome, List, [], Some}
use Rattle.std.specs.FinMap as fin
use Rattle.std.specs.FinSet as set
use Rattle.ufs_hand_laws.specs.Owned.{Has}
use Rattle.ufs_held.specs.Together.{under_numbers}
use Rattle.ufs_joint.specs.Cells.{FileCell, NamesCell}
use Rattle.ufs_joint.specs.NamesHands.{AreNumberedOnce}

-- Nothing of the names is left to commit, and these are the live files, of which nothing is left to commit either.
pub record MayReclaim (names : NamesCell) (files : List FileCell) : Type 0 where
  pub once : AreNumberedOnce (under_numbers files)
  pub live : (file : ℕ) → IsSome (fin.get names.value.held file) → (c : FileCell) × Has (file, c) (under_numbers files)
  pub committed : (c : FileCell) → Has c files → c.value.log.committed ≡ c.value.log.noted
  pub noted : names.value.tree.noted ≡ Some []
  pub fresh : names.fresh ≡ []

-- No block is dropped any more.
abbrev pub IsReclaimed : NamesCell → NamesCell → Type 0
IsReclaimed old new = new ≡ record old { dropped = set.empty }
