use Rattle.std.proofs.Common.{◌≡◌, ◌++◌, ℕ, List, Option}
use Rattle.ufs_held.specs.Together.{HasThemToo}
use Rattle.ufs_joint.specs.Cells.{FileCell}
use Rattle.ufs_home.specs.Lending.{files_among}
use Rattle.ufs_home.proofs.shelf.Shelf.join_all.Given as goal

-- those that were come to, and those that are left
abbrev pub invariant-loop-entry : goal.invariant-loop-entry
invariant-loop-entry g l = (done : List (ℕ × Option FileCell)) × (done ++ l.entry-iterator ≡ l.initial.entry-iterator) × HasThemToo (files_among done) l.fn.hand l.hand
