use Rattle.ufs_one_hand.proofs.hand.abandon.Given as goal

abbrev pub ghosts-abandon_as : goal.ghosts-abandon_as
ghosts-abandon_as a = record { table = a.opened.table; start = a.opened.start }
