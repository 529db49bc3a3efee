use Rattle.std.proofs.Common.{◌≡◌, ◌++◌}
use Rattle.ufs_model.specs.Order.{path_cmp}
use Rattle.ufs_calls.specs.Seen.{keyed}
use Rattle.ufs_tree.proofs.node_map.NodeMap.below.Given as goal

-- what was found, and what is left
abbrev pub invariant-loop-path : goal.invariant-loop-path
invariant-loop-path l = l.found.items ++ keyed path_cmp (λ k. k.items) l.path-iterator ≡ keyed path_cmp (λ k. k.items) l.initial.path-iterator
