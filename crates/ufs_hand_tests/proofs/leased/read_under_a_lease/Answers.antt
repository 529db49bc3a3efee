use Rattle.std.proofs.Common.{sym, subst}
use Rattle.ufs_hand.specs.Session.{CanBegin}
use Rattle.ufs_hand_tests.proofs.LeasedSteps.{begins}
use Rattle.ufs_hand_tests.proofs.leased.read_under_a_lease.Goals as goal

pub open-requires : goal.open-requires
open-requires c = subst CanBegin (sym c.picked-parts.ensures) (begins c.a_request_keeps_the_tree.ensures c.a_start_is_a_tree.ensures.contents)
