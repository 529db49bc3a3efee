use Rattle.std.proofs.Common.{sym, subst, ap, ◌∙◌}
use Rattle.ufs_joint.specs.Cells.{Start}
use Rattle.ufs_joint.specs.Ends.{CanBegin}
use Rattle.ufs_joint_tests.proofs.Small.{begins}
use Rattle.ufs_turns_tests.proofs.names.commits_on.Goals as goal

pub open-requires : goal.open-requires
open-requires g c = subst CanBegin (sym c.small_parts-parts.ensures) (begins c.args.names.now (g.D.Door.store c.args.store) c.requires.part c.requires.counted c.requires.bare c.requires.formed c.requires.free)

pub run_commits-requires-clause-its : goal.run_commits-requires-clause-its
run_commits-requires-clause-its g c = c.geometry-geometry.ensures.is ∙ c.requires.formed ∙ sym (ap (λ (k : Start). k.geometry) (c.in-Ok.ensures ∙ c.small_parts-parts.ensures))
