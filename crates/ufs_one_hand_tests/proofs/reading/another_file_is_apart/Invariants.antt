use Rattle.ufs_one_hand_tests.proofs.reading.another_file_is_apart.Given as goal

abbrev pub ghosts-apart : goal.ghosts-apart
ghosts-apart g a = record { table = a.opened.table; start = a.opened.start }
