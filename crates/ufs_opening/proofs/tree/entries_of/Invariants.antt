use Rattle.std.proofs.Common.{◌≡◌, map}
use Rattle.ufs_opening.specs.Heads.{whole_entry}
use Rattle.ufs_opening.proofs.tree.entries_of.Given as goal

abbrev pub invariant-loop-head : goal.invariant-loop-head
invariant-loop-head l = l.entries.items ≡ map whole_entry l.yielded
