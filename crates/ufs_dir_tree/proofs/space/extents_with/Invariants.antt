use Rattle.std.proofs.Common.{◌≡◌, ◌≤◌, length, take}
use Rattle.ufs_extent.specs.Runs.{next_block}
use Rattle.ufs_dir_tree.specs.Space.{extents_of}
use Rattle.ufs_dir_tree.proofs.space.extents_with.Given as goal

abbrev pub invariant-loop-other : goal.invariant-loop-other
invariant-loop-other l = record {
  so_far : l.count ≡ length (extents_of (take l.other-index l.blocks));
  next_is : l.next ≡ next_block (extents_of (take l.other-index l.blocks));
  small : l.count ≤ l.other-index;
}
