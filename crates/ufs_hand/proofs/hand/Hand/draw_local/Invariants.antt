use Rattle.ufs_hand.proofs.hand.Hand.draw_local.Given as goal

abbrev pub ghosts-exchange_as : goal.ghosts-exchange_as
ghosts-exchange_as g a = record { fresh = a.fresh.now }
