use Rattle.std.proofs.Common.{[]}
use Rattle.ufs_one_hand.proofs.hand.abandon_as.Goals as goal

pub close-requires : goal.close-requires
close-requires g c = record { session = ([], c.begin.ensures.session, c.begin.ensures.each) }
