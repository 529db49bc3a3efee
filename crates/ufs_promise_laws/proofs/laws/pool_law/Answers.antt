use Rattle.ufs_promise_laws.proofs.Pools.{blocks_move}
use Rattle.ufs_promise_laws.proofs.laws.pool_law.Goals as goal

pub returns : goal.returns
returns c = blocks_move
