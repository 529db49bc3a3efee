use Rattle.std.proofs.Common.{◌≡◌, ◌≤◌, ◌+◌}
use Rattle.ufs_load_image.proofs.Left.{AreLeft}
use Rattle.ufs_start.specs.Tables.{is_used_in}
use Rattle.ufs_start.proofs.free.free_inodes.Given as goal

abbrev pub invariant-loop-inode : goal.invariant-loop-inode
invariant-loop-inode l = record {
  first : l.free.first ≡ 2;
  blocks : l.free.blocks ≡ l.geometry.inodes + 1;
  not_past : l.inode ≤ l.geometry.inodes + 1;
  so_far : AreLeft l.free.free 2 (l.geometry.inodes + 1) (is_used_in l.forms) l.inode;
}
