use Rattle.ufs_bytes_laws.proofs.TreeLemmas.{itself, either_way, through, other_bytes, trees}
use Rattle.ufs_bytes_laws.proofs.trees_are_alike_by_sizes.Goals as goal

pub returns-clause-itself : goal.returns-clause-itself
returns-clause-itself c = itself

pub returns-clause-either_way : goal.returns-clause-either_way
returns-clause-either_way c = either_way

pub returns-clause-through : goal.returns-clause-through
returns-clause-through c = through

pub returns-clause-other_bytes : goal.returns-clause-other_bytes
returns-clause-other_bytes c = other_bytes

pub returns-clause-trees : goal.returns-clause-trees
returns-clause-trees c = trees
