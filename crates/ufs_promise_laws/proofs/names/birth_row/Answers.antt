use Rattle.std.proofs.Common.{refl}
use Rattle.ufs_promise_laws.proofs.names.birth_row.Goals as goal

pub returns-clause-records : goal.returns-clause-records
returns-clause-records c = refl

pub returns-clause-met : goal.returns-clause-met
returns-clause-met c = refl
