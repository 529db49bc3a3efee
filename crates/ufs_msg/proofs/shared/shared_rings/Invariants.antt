use Rattle.ufs_msg.specs.Shared.{HaveRooms}
use Rattle.ufs_msg.proofs.shared.shared_rings.Given as goal

abbrev pub invariant-loop-place : goal.invariant-loop-place
invariant-loop-place g l = HaveRooms l._place l.room l.rings.items
