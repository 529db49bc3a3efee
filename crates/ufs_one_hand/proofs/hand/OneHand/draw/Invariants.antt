use Rattle.ufs_hand_laws.specs.Draws.{entry_of}
use Rattle.ufs_one_hand.specs.Drawn.{leaves_after, told_as}
use Rattle.ufs_one_hand.proofs.hand.OneHand.draw.Given as goal

abbrev pub ghosts-draw_as-F-Drawing : goal.ghosts-draw_as-F-Drawing
ghosts-draw_as-F-Drawing g a = record { fresh = told_as g.A.Answering.reply a.fresh.now }

abbrev pub ghosts-draw_as-L-Leaving : goal.ghosts-draw_as-L-Leaving
ghosts-draw_as-L-Leaving g a = record { leaves = leaves_after g.A.Answering.before (entry_of 0 (told_as g.A.Answering.reply a.fresh.now)) g.A.Answering.fds a.self.now }
