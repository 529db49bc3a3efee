use Rattle.std.proofs.Common.{◌≡◌, take}
use Rattle.ufs_model.specs.History.{joined}
use Rattle.ufs_model.proofs.merging.merge.Given as goal

abbrev pub invariant-loop-list : goal.invariant-loop-list
invariant-loop-list l = l.all.items ≡ joined (take l.list-index l.lists.items)
