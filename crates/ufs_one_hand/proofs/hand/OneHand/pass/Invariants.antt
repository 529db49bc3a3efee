use Rattle.ufs_one_hand.specs.Drawn.{passed_view}
use Rattle.ufs_one_hand.proofs.hand.OneHand.pass.Given as goal

abbrev pub ghosts-mark : goal.ghosts-mark
ghosts-mark g a = record { leaves = passed_view g.P.Passing.failed g.P.Passing.stop g.P.Passing.states g.P.Passing.state g.P.Passing.shortages a.self.now }
