use Rattle.std.specs.Prelude.{None}
use Rattle.ufs_caller.specs.Own.{left_by}
use Rattle.ufs_caller_tests.proofs.stub.excused.Given as goal

abbrev pub ghosts-draw_excuse : goal.ghosts-draw_excuse
ghosts-draw_excuse g a = record { leaves = left_by a.fresh.now None a.hand.now }
