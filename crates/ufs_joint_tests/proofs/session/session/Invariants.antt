use Rattle.std.specs.Prelude.{[]}
use Rattle.ufs_joint.specs.Disks.{cell_of}
use Rattle.ufs_joint.specs.Turns.{turn_begun}
use Rattle.ufs_joint_tests.specs.Small.{all_left, asked}
use Rattle.ufs_joint_tests.proofs.session.session.Given as goal

abbrev pub ghosts-ask : goal.ghosts-ask
ghosts-ask g a = record { leaves = asked a.names.now (g.D.Door.store a.store.now) }

abbrev pub ghosts-excuse : goal.ghosts-excuse
ghosts-excuse g a = record { leaves = λ n. all_left a.names.now }

abbrev pub ghosts-begin : goal.ghosts-begin
ghosts-begin g a = record { leaves = λ n. turn_begun n (cell_of 0 [] (g.D.Door.store a.store.now)) a.hand.now }
