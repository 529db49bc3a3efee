use Rattle.std.proofs.Common.{◌≡◌, take}
use Rattle.ufs_msg.specs.Shared.{new_ends}
use Rattle.ufs_msg.proofs.shared.ends.Given as goal

abbrev pub invariant-loop-ring : goal.invariant-loop-ring
invariant-loop-ring g l = l.ends.items ≡ new_ends (take l.ring-index l.rings.items)
