use Rattle.ufs_begin_hands_tests.proofs.session.deal_and_finish.Given as goal

abbrev pub ghosts-finish_all-N-Naming : goal.ghosts-finish_all-N-Naming
ghosts-finish_all-N-Naming g a = record { table = a.ready.opened.table; start = a.ready.opened.start; origin = g.D.Disk.moments a.ready.store.disk }

abbrev pub ghosts-finish_all-L-Ledger : goal.ghosts-finish_all-L-Ledger
ghosts-finish_all-L-Ledger g a = record { name = a.blank.name; parts = a.blank.parts }
