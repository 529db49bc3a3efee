use Rattle.ufs_turns.proofs.FreeBlocks.{rests_so, some_gained}
use Rattle.ufs_turns.proofs.ways.DirectTurns.give_pool.Goals as goal

pub returns-clause-given : goal.returns-clause-given
returns-clause-given g c = some_gained c.give_pool.result c.args.missing _ _ c.args.pool.now c.give_pool.new.pool c.give_pool.ensures.given

pub returns-clause-rests : goal.returns-clause-rests
returns-clause-rests g c = rests_so _ _ c.give_pool.ensures.rests
