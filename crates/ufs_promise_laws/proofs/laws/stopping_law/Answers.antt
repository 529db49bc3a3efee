use Rattle.ufs_promise_laws.proofs.Stopping.{barrier_stops, checkpoint_stops, commit_stops, write_stops}
use Rattle.ufs_promise_laws.proofs.laws.stopping_law.Goals as goal

pub returns-clause-barrier : goal.returns-clause-barrier
returns-clause-barrier c s l start history counts p same formed stop has st = barrier_stops c.args.geometry.now s l start history counts p same formed stop st has

pub returns-clause-write : goal.returns-clause-write
returns-clause-write c s l start history counts p block bytes seen same formed stop none fresh has st =
    write_stops c.args.geometry.now s l start history counts p same formed stop st c.promise_law.ensures.written block bytes seen none fresh has

pub returns-clause-checkpoint : goal.returns-clause-checkpoint
returns-clause-checkpoint c old s l start history counts p same formed stop led any st =
    checkpoint_stops c.args.geometry.now s l start history counts p same formed stop st old led c.promise_law.ensures.beginning any

pub returns-clause-commit : goal.returns-clause-commit
returns-clause-commit c old s records l start history counts next p same formed stop led any kept st =
    commit_stops c.args.geometry.now s l start history counts p same formed stop st old led c.promise_law.ensures.beginning c.promise_law.ensures.emptied records next any kept
