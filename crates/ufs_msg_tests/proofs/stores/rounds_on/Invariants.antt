use Rattle.ufs_msg_tests.specs.TwoClients.{two_start}
use Rattle.ufs_msg_tests.proofs.stores.rounds_on.Given as goal

abbrev pub ghosts-two_parts : goal.ghosts-two_parts
ghosts-two_parts g a = record { opened = two_start a.names.now (g.D.Door.store a.store.now) }

abbrev pub ghosts-session : goal.ghosts-session
ghosts-session g a = record { table = a.opened.table; start = a.opened.start; origin = (g.D.Door.store a.store.now).moments }
