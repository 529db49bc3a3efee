use Rattle.std.proofs.Common.{◌≡◌, [], replicate}
use Rattle.ufs_home.proofs.mailbox.no_letters.Given as goal

abbrev pub invariant-loop-place : goal.invariant-loop-place
invariant-loop-place g l = l.boxes.items ≡ replicate l._place []
