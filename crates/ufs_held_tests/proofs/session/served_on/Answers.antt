use Rattle.std.proofs.Common.{sym, subst, ap, ◌∙◌}
use Rattle.ufs_joint.specs.Cells.{Start}
use Rattle.ufs_joint.specs.Ends.{CanBegin}
use Rattle.ufs_joint_tests.proofs.Small.{begins}
use Rattle.ufs_held_tests.proofs.session.served_on.Goals as goal

pub open-requires : goal.open-requires
open-requires g c = subst CanBegin (sym c.small_parts-parts.ensures) (begins c.args.names (g.D.Door.store c.args.store) c.requires.part c.requires.counted c.requires.bare c.requires.formed c.requires.free)

pub run-requires-clause-its : goal.run-requires-clause-its
run-requires-clause-its g c = c.geometry-geometry.ensures.is ∙ c.requires.formed ∙ sym (ap (λ (k : Start). k.geometry) (c.in-Ok-open.ensures ∙ c.small_parts-parts.ensures))
