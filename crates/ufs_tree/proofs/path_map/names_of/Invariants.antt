use Rattle.std.proofs.Common.{◌≡◌, take}
use Rattle.ufs_tree.specs.Below.{names_among}
use Rattle.ufs_tree.proofs.path_map.names_of.Given as goal

abbrev pub invariant-loop-entry : goal.invariant-loop-entry
invariant-loop-entry l = l.names.items ≡ names_among (take l.entry-index l.nodes) l.dir
