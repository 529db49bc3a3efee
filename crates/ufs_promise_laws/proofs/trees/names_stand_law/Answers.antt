use Rattle.ufs_promise_laws.proofs.TreeNamed.{is_name_table, names_stand, named_once}
use Rattle.ufs_promise_laws.proofs.trees.names_stand_law.Goals as goal

pub returns-clause-stand : goal.returns-clause-stand
returns-clause-stand c image v cat n t is tree has once of given reached = (is_name_table c.args.sectors image v cat n t is tree has once of given reached, names_stand c.args.sectors image v cat n t is tree has once of given)

pub returns-clause-once : goal.returns-clause-once
returns-clause-once c = named_once
