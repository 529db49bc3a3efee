use Rattle.ufs_one_hand_tests.proofs.session.four_entries_are_drawn.Given as goal

abbrev pub ghosts-session : goal.ghosts-session
ghosts-session g a = record { table = a.opened.table; start = a.opened.start }
