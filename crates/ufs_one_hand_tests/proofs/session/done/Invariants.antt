use Rattle.std.specs.FinMap as fin
use Rattle.ufs_model.specs.declared.data.Reply.TheVariants.{Done}
use Rattle.ufs_one_hand_tests.proofs.session.done.Given as goal

abbrev pub ghosts-keep : goal.ghosts-keep
ghosts-keep g a = record { before = g.N.Naming.start.tree; fds = fin.empty; reply = Done }

abbrev pub ghosts-draw : goal.ghosts-draw
ghosts-draw g a = record { before = g.N.Naming.start.tree; fds = fin.empty; reply = Done }
