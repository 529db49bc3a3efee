use Rattle.std.specs.Prelude.{[], None, Some}
use Rattle.std.specs.FinMap as fin
use Rattle.ufs_model.specs.declared.data.Excuse.TheVariants.{Device}
use Rattle.ufs_model.specs.declared.data.Reply.TheVariants.{Excused}
use Rattle.ufs_one_hand_tests.proofs.session.failed.Given as goal

abbrev pub ghosts-pass : goal.ghosts-pass
ghosts-pass g a = record { failed = None; stop = Some 7; states = []; state = []; shortages = [] }

abbrev pub ghosts-draw : goal.ghosts-draw
ghosts-draw g a = record { before = g.N.Naming.start.tree; fds = fin.empty; reply = Excused (Device 7) }
