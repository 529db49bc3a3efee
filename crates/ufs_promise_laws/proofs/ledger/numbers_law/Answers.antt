use Rattle.ufs_promise_laws.proofs.NumberedPaths.{tells, have_numbers, unborn}
use Rattle.ufs_promise_laws.proofs.ledger.numbers_law.Goals as goal

pub returns-clause-paths : goal.returns-clause-paths
returns-clause-paths c n t table part = tells n t table part

pub returns-clause-numbers : goal.returns-clause-numbers
returns-clause-numbers c n t part = have_numbers n t part

pub returns-clause-unborn : goal.returns-clause-unborn
returns-clause-unborn c n t part = unborn n t part
