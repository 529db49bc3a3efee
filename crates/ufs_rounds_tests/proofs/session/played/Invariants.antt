use Rattle.ufs_rounds_tests.proofs.session.played.Given as goal

abbrev pub ghosts-session-N-Naming : goal.ghosts-session-N-Naming
ghosts-session-N-Naming g a = record { table = a.ready.opened.table; start = a.ready.opened.start; origin = g.D.Disk.moments a.ready.store.disk }

abbrev pub ghosts-session-L-Ledger : goal.ghosts-session-L-Ledger
ghosts-session-L-Ledger g a = record { name = a.blank.name; parts = a.blank.parts }
