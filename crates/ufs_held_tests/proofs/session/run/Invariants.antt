use Rattle.ufs_joint.specs.Marks.{asking}
use Rattle.ufs_model.specs.declared.data.Op.TheVariants as op
use Rattle.ufs_hand_laws.specs.Whole.{idle_client}
use Rattle.ufs_held_tests.proofs.session.run.Given as goal

abbrev pub ghosts-ask : goal.ghosts-ask
ghosts-ask g a = record { leaves = λ n. asking n 0 op.Sync idle_client a.hand.now }
