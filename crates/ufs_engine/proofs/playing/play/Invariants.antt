use Rattle.ufs_engine.proofs.playing.play.Given as goal

abbrev pub ghosts-play_named-N-Naming : goal.ghosts-play_named-N-Naming
ghosts-play_named-N-Naming g a = record { table = a.ready.opened.table; start = a.ready.opened.start; origin = g.D.Disk.moments a.ready.store.disk }

abbrev pub ghosts-play_named-L-Ledger : goal.ghosts-play_named-L-Ledger
ghosts-play_named-L-Ledger g a = record { name = a.blank.name; parts = a.blank.parts }
