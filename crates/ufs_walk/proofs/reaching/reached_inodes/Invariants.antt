use Rattle.std.proofs.Common.{◌≡◌, length, take}
use Rattle.ufs_walk.proofs.Marked.{IsMarked, inodes_of}
use Rattle.ufs_walk.proofs.reaching.reached_inodes.Given as goal

abbrev pub invariant-loop-at : goal.invariant-loop-at
invariant-loop-at l = record {
  sized : length l.marks.items ≡ l.fn.geometry.inodes;
  marked : IsMarked l.marks.items (inodes_of (take l.at l.places.items));
}
