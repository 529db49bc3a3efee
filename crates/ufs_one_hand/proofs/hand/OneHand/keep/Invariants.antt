use Rattle.ufs_one_hand.proofs.Kept.{learned_view}
use Rattle.ufs_one_hand.proofs.hand.OneHand.keep.Given as goal

abbrev pub ghosts-learn : goal.ghosts-learn
ghosts-learn g a = record { leaves = learned_view g.A.Answering.before a.entry.now a.learned a.self.now }
