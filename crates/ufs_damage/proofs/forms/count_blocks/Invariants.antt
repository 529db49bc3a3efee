use Rattle.std.proofs.Common.{◌≡◌, ◌≤◌, ◌*◌, ◌^◌, length, flat_map, take}
use Rattle.std.specs.List.{range_with_len}
use Rattle.ufs_layout.specs.declared.inode.Extent.{Extent}
use Rattle.ufs_damage.proofs.forms.count_blocks.Given as goal

abbrev pub invariant-loop-extent : goal.invariant-loop-extent
invariant-loop-extent l = record {
  blocks : l.blocks ≡ length (flat_map (λ (e : Extent). range_with_len e.start e.length) (take l.extent-index l.extents));
  few : l.blocks ≤ l.extent-index * 2 ^ 32;
}
