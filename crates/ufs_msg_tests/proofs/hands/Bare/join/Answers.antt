use Rattle.std.proofs.Common.{sym, subst}
use Rattle.ufs_msg_tests.specs.Hands.{HasNothing}
use Rattle.ufs_msg_tests.proofs.BareHands.{none_both}
use Rattle.ufs_msg_tests.proofs.hands.Bare.join.Goals as goal

pub invariant_of-self : goal.invariant_of-self
invariant_of-self g c = subst HasNothing (sym c.join.ensures) (none_both c.self.inside.hand c.into_hand.result c.self.invariant c.into_hand.ensures)
