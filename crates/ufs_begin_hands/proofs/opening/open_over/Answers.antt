use Rattle.std.proofs.Common.{sym, subst}
use Rattle.ufs_joint.specs.Ends.{CanBegin}
use Rattle.ufs_begin_hands.proofs.opening.open_over.Goals as goal

pub open-requires : goal.open-requires
open-requires g c = subst CanBegin (sym c.parts_over-parts.ensures) c.requires
