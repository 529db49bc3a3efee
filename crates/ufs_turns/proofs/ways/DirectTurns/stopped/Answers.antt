use Rattle.ufs_turns.proofs.FreeBlocks.{rests_so}
use Rattle.ufs_turns.proofs.ways.DirectTurns.stopped.Goals as goal

pub returns-clause-rests : goal.returns-clause-rests
returns-clause-rests g c = rests_so _ _ c.stopped.ensures.rests
