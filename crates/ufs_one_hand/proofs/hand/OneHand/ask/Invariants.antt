use Rattle.ufs_one_hand.specs.Drawn.{asked_view}
use Rattle.ufs_one_hand.proofs.hand.OneHand.ask.Given as goal

abbrev pub ghosts-ask_as : goal.ghosts-ask_as
ghosts-ask_as g a = record { leaves = asked_view a.client a.op.now a.self.now }
