use Rattle.ufs_begin_hands_tests.proofs.session.deal_and_close.Given as goal

abbrev pub ghosts-close_all-N-Naming : goal.ghosts-close_all-N-Naming
ghosts-close_all-N-Naming g a = record { table = a.ready.opened.table; start = a.ready.opened.start; origin = g.D.Disk.moments a.ready.store.disk }

abbrev pub ghosts-close_all-L-Ledger : goal.ghosts-close_all-L-Ledger
ghosts-close_all-L-Ledger g a = record { name = a.blank.name; parts = a.blank.parts }
