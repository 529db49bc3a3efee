use Rattle.ufs_model.proofs.Facts.Starts.{start_is_tree}
use Rattle.ufs_model.proofs.ContentLemmas.{start_has_contents, start_is_numbered}
use Rattle.ufs_model.proofs.laws.a_start_is_a_tree.Goals as goal

pub returns-clause-tree : goal.returns-clause-tree
returns-clause-tree c = start_is_tree

pub returns-clause-contents : goal.returns-clause-contents
returns-clause-contents c = start_has_contents

pub returns-clause-numbers : goal.returns-clause-numbers
returns-clause-numbers c = start_is_numbered
