use Rattle.ufs_hand.proofs.hand.Hand.split.Given as goal

abbrev pub ghosts-split_as : goal.ghosts-split_as
ghosts-split_as g a = record { part = a.part }
