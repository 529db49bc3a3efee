use Rattle.ufs_hand.proofs.Ends.{begins}
use Rattle.ufs_hand.proofs.hand.Opened.open.Goals as goal

pub of_words-requires : goal.of_words-requires
of_words-requires c = begins _ c.requires
