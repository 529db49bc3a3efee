-- The one live file that a request of the names touches, on whichever tree has the names.
use Rattle.std.specs.Prelude.{ℕ, ◌≡◌, ◌≢◌, Option, Some, None}
use Rattle.ufs_model.specs.Asks.{IsAsk}
use Rattle.ufs_model.specs.PosixTree.{PosixTree}
use Rattle.ufs_model.specs.Touched.{touched_parts}
use Rattle.ufs_model.specs.declared.data.Ask.{Ask}
use Rattle.ufs_names.specs.NamesPart.{IsNamesPart, NamesPart}
use Rattle.ufs_names.specs.Needs.{AreFilesIn, listed}
use Rattle.ufs_joint.specs.Cells.{FileCell}

abbrev pub IsNeeded : NamesPart → Ask → Option ℕ → Type 0
IsNeeded names ask file = (t : PosixTree) → IsNamesPart names t → IsAsk t ask → AreFilesIn t (touched_parts t ask.client ask.op) (listed file)

-- the number of a file that is held, if one is
abbrev pub number_of : Option FileCell → Option ℕ
number_of None = None
number_of (Some c) = Some c.value.file.file

-- The pool's name is the number of no file that the request touches or makes.
pub record IsNamedApart (n next : ℕ) (file : Option FileCell) : Type 0 where
  pub new : n ≢ next
  pub touched : number_of file ≢ Some n
