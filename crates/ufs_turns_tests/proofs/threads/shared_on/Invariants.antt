use Rattle.ufs_joint_tests.specs.Small.{small_start}
use Rattle.ufs_turns_tests.proofs.threads.shared_on.Given as goal

abbrev pub ghosts-small_parts : goal.ghosts-small_parts
ghosts-small_parts g a = record { opened = small_start a.names.now (g.D.Door.store a.store.now) }

abbrev pub ghosts-run_shared-N-Naming : goal.ghosts-run_shared-N-Naming
ghosts-run_shared-N-Naming g a = record { table = a.opened.table; start = a.opened.start; origin = (g.D.Door.store a.store).moments }

abbrev pub ghosts-run_shared-L-Ledger : goal.ghosts-run_shared-L-Ledger
ghosts-run_shared-L-Ledger g a = record { name = a.blank.name; parts = a.blank.parts }
