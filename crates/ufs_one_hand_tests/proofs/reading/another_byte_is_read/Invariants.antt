use Rattle.ufs_one_hand_tests.proofs.reading.another_byte_is_read.Given as goal

abbrev pub ghosts-together : goal.ghosts-together
ghosts-together g a = record { table = a.opened.table; start = a.opened.start }
