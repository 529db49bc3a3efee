use Rattle.std.proofs.Common.{sym, subst}
use Rattle.ufs_joint.specs.Ends.{CanBegin}
use Rattle.ufs_joint_tests.proofs.Small.{begins}
use Rattle.ufs_msg_tests.proofs.stores.hands_on.Goals as goal

pub open-requires : goal.open-requires
open-requires g c = subst CanBegin (sym c.small_parts-parts.ensures) (begins c.args.names.now (g.D.Door.store c.args.store.now) c.requires.part c.requires.counted c.requires.bare c.requires.formed c.requires.free)
