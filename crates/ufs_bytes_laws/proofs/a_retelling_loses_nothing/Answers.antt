use Rattle.ufs_bytes_laws.proofs.RetellingLemmas.{back, in_turn, order, complete}
use Rattle.ufs_bytes_laws.proofs.a_retelling_loses_nothing.Goals as goal

pub returns-clause-back : goal.returns-clause-back
returns-clause-back c = back

pub returns-clause-in_turn : goal.returns-clause-in_turn
returns-clause-in_turn c = in_turn

pub returns-clause-order : goal.returns-clause-order
returns-clause-order c = order

pub returns-clause-complete : goal.returns-clause-complete
returns-clause-complete c = complete
