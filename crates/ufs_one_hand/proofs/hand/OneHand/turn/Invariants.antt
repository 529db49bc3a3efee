use Rattle.ufs_one_hand.specs.Drawn.{turned_view}
use Rattle.ufs_one_hand.proofs.hand.OneHand.turn.Given as goal

abbrev pub ghosts-mark : goal.ghosts-mark
ghosts-mark g a = record { leaves = turned_view a.self.now }
