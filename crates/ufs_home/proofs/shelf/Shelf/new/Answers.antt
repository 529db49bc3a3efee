use Rattle.std.proofs.Common.{ℕ, List, Option, sym, subst}
use Rattle.std.specs.FinMap as fin
use Rattle.std.specs.Ordering.{nat_cmp}
use Rattle.ufs_calls.specs.Seen.{keyed}
use Rattle.ufs_joint.specs.Cells.{FileCell}
use Rattle.ufs_home.specs.Places.{AreNumbered}
use Rattle.ufs_home.proofs.Shelves.{numbered_none}
use Rattle.ufs_home.proofs.shelf.Shelf.new.Goals as goal

pub invariant_of-result : goal.invariant_of-result
invariant_of-result g c =
    subst (λ (es : List (ℕ × Option FileCell)). AreNumbered (fin.from_entries (keyed nat_cmp (λ k. k) es))) (sym c.new.ensures.empty) numbered_none
