use Rattle.std.proofs.Common.{◌≡◌, ◌≤◌, ◌*◌, ◌^◌, length, take}
use Rattle.ufs_recovery.proofs.FirstBlocks.{blocks_in}
use Rattle.ufs_recovery.proofs.cutting.count_blocks.Given as goal

abbrev pub invariant-loop-extent : goal.invariant-loop-extent
invariant-loop-extent l = record {
  blocks : l.blocks ≡ length (blocks_in (take l.extent-index l.extents));
  few : l.blocks ≤ l.extent-index * 2 ^ 32;
}
