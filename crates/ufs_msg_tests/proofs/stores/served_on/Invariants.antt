use Rattle.ufs_joint_tests.specs.Small.{small_start}
use Rattle.ufs_msg_tests.proofs.stores.served_on.Given as goal

abbrev pub ghosts-small_parts : goal.ghosts-small_parts
ghosts-small_parts g a = record { opened = small_start a.names.now (g.D.Door.store a.store.now) }

abbrev pub ghosts-session : goal.ghosts-session
ghosts-session g a = record { table = a.opened.table; start = a.opened.start; origin = (g.D.Door.store a.store.now).moments }
