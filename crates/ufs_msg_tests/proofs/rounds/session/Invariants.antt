use Rattle.ufs_joint.specs.Marks.{asking}
use Rattle.ufs_model.specs.declared.data.Op.TheVariants.{Sync}
use Rattle.ufs_hand_laws.specs.Whole.{idle_client}
use Rattle.ufs_msg_tests.proofs.rounds.session.Given as goal

abbrev pub ghosts-ask : goal.ghosts-ask
ghosts-ask g a = record { leaves = λ n. asking n a.client Sync idle_client a.hand.now }
