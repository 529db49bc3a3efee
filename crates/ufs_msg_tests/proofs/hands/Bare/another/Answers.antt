use Rattle.std.proofs.Common.{sym, subst}
use Rattle.ufs_model.specs.declared.data.PartName.TheVariants.{Store}
use Rattle.ufs_msg_tests.specs.Hands.{HasNothing}
use Rattle.ufs_msg_tests.proofs.BareHands.{none_given, none_kept}
use Rattle.ufs_msg_tests.proofs.hands.Bare.another.Goals as goal

pub invariant_of-self : goal.invariant_of-self
invariant_of-self g c = subst HasNothing (sym c.split-hand.ensures.kept) (none_kept Store c.self.inside.hand c.self.invariant)

pub invariant_of-result : goal.invariant_of-result
invariant_of-result g c = subst HasNothing (sym c.split-hand.ensures.given) (none_given Store c.self.inside.hand c.self.invariant)
