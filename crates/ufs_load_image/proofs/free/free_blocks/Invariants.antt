use Rattle.std.proofs.Common.{◌≡◌, ◌≤◌, false, get_or}
use Rattle.ufs_load_image.proofs.Left.{AreLeft}
use Rattle.ufs_load_image.proofs.free.free_blocks.Given as goal

abbrev pub invariant-loop-block : goal.invariant-loop-block
invariant-loop-block l = record {
  first : l.free.first ≡ l.first;
  blocks : l.free.blocks ≡ l.geometry.blocks;
  not_past : l.block ≤ l.geometry.blocks;
  so_far : AreLeft l.free.free l.first l.geometry.blocks (λ b. get_or l.taken b false) l.block;
}
