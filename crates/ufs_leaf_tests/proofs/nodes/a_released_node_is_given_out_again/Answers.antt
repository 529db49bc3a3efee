use Rattle.std.proofs.Common.{ap, ◌∙◌}
use Rattle.std.specs.Ordering.{nat_cmp}
use Rattle.std.specs.FinSet as set
use Rattle.ufs_leaf_tests.proofs.FileLemmas.{inserted}
use Rattle.ufs_leaf_tests.proofs.nodes.a_released_node_is_given_out_again.Goals as goal

pub release-requires-clause-given : goal.release-requires-clause-given
release-requires-clause-given g c = ap (λ (s : set.FinSet nat_cmp). set.contains s c.fresh-node.result) c.fresh-node.ensures.given ∙ inserted _ c.fresh-node.result
