use Rattle.std.specs.Prelude.{[], ◌∷◌}
use Rattle.std.specs.FinMap as fin
use Rattle.ufs_hand_laws.specs.First.{new_names}
use Rattle.ufs_hand_tests.specs.Small.{asked}
use Rattle.ufs_hand_tests.proofs.session.session.Given as goal

abbrev pub ghosts-mark : goal.ghosts-mark
ghosts-mark g a = record { leaves = asked }

abbrev pub ghosts-draw : goal.ghosts-draw
ghosts-draw g a = record { leaves = record { fds = fin.empty; files = []; names = (tt, new_names) ∷ [] } }
