use Rattle.ufs_hand_tests.specs.Leased.{one_file}
use Rattle.ufs_hand_tests.proofs.leased.read_under_a_lease.Given as goal

abbrev pub ghosts-picked : goal.ghosts-picked
ghosts-picked a = record { opened = one_file }

abbrev pub ghosts-session : goal.ghosts-session
ghosts-session a = record { table = a.opened.table; start = a.opened.start }
