use Rattle.ufs_hand.proofs.hand.Hand.draw.Given as goal

abbrev pub ghosts-draw_as : goal.ghosts-draw_as
ghosts-draw_as g a = record { fresh = a.fresh.now }
