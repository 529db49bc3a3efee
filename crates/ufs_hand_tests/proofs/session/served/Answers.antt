use Rattle.std.proofs.Common.{sym, subst}
use Rattle.ufs_hand.specs.Session.{CanBegin}
use Rattle.ufs_hand_tests.proofs.Small.{begins}
use Rattle.ufs_hand_tests.proofs.session.served.Goals as goal

pub open-requires : goal.open-requires
open-requires c = subst CanBegin (sym c.picked-parts.ensures) begins
