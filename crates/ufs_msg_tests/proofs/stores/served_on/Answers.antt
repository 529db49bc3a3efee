use Rattle.std.proofs.Common.{sym, subst, ap, ◌∙◌}
use Rattle.ufs_joint.specs.Cells.{Start}
use Rattle.ufs_joint.specs.Ends.{CanBegin}
use Rattle.ufs_joint_tests.proofs.Small.{begins}
use Rattle.ufs_msg.specs.There.{client_count, worker_count}
use Rattle.ufs_msg_tests.proofs.stores.served_on.Goals as goal

pub open-requires : goal.open-requires
open-requires g c = subst CanBegin (sym c.small_parts-parts.ensures) (begins c.args.names.now (g.D.Door.store c.args.store.now) c.requires.part c.requires.counted c.requires.bare c.requires.formed c.requires.free)

pub session-requires-clause-its : goal.session-requires-clause-its
session-requires-clause-its g c = c.geometry-geometry.ensures.is ∙ c.requires.formed ∙ sym (ap (λ (k : Start). k.geometry) (c.in-Ok.ensures ∙ c.small_parts-parts.ensures))

pub session-requires-clause-clients : goal.session-requires-clause-clients
session-requires-clause-clients g c = ap client_count (c.in-Ok.ensures ∙ c.small_parts-parts.ensures)

pub session-requires-clause-workers : goal.session-requires-clause-workers
session-requires-clause-workers g c = ap worker_count (c.in-Ok.ensures ∙ c.small_parts-parts.ensures)
