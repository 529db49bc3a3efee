use Rattle.ufs_hand_tests.specs.Small.{small}
use Rattle.ufs_hand_tests.proofs.session.served.Given as goal

abbrev pub ghosts-picked : goal.ghosts-picked
ghosts-picked a = record { opened = small }

abbrev pub ghosts-session : goal.ghosts-session
ghosts-session a = record { table = a.opened.table; start = a.opened.start }
