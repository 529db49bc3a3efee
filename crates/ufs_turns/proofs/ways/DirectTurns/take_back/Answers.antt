use Rattle.ufs_turns.proofs.FreeBlocks.{rests_so}
use Rattle.ufs_turns.proofs.ways.DirectTurns.take_back.Goals as goal

pub returns-clause-rests : goal.returns-clause-rests
returns-clause-rests g c = rests_so _ _ c.take_back.ensures.rests
