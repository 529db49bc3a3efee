-- A file at the primary, whatever is known of its commits.
use Rattle.ufs_joint.specs.Cells.{FileCell}
use Rattle.ufs_home.specs.declared.stage.Stage.{Stage}
use Rattle.ufs_home.specs.declared.stage.Stage.TheVariants.{Held, Young}

module _ {N : Type 0} where
  abbrev pub cell_of : Stage N → FileCell
  cell_of (Held c) = c
  cell_of (Young c) = c
