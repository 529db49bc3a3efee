-- The names before this place are the same.
use Rattle.std.proofs.Common.{◌≡◌, take}
use Rattle.ufs_tree.proofs.legal.same_names.Given as goal

abbrev pub invariant-loop-i : goal.invariant-loop-i
invariant-loop-i l = take l.i l.left ≡ take l.i l.right
