use Rattle.std.proofs.Common.{◌≡◌, ◌-◌}
use Rattle.ufs_model.specs.Descriptors.{lowest_free, free_from}
use Rattle.ufs_tree.proofs.fd_map.FdMap.lowest.Given as goal

abbrev pub invariant-loop-fd : goal.invariant-loop-fd
invariant-loop-fd l = lowest_free l.self l.client ≡ free_from l.self l.client l.fd (67 - l.fd)
