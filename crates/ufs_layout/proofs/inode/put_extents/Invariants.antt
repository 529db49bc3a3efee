use Rattle.std.proofs.Common.{◌≡◌, ◌+◌, ◌*◌, ◌++◌, take, drop, flat_map}
use Rattle.std.specs.List.{AllByRecursion}
use Rattle.ufs_layout.specs.InodeForm.{extent_bytes, FitsExtent}
use Rattle.ufs_layout.proofs.inode.put_extents.Given as goal

abbrev pub invariant-loop-i : goal.invariant-loop-i
invariant-loop-i l = record {
  written : l.sector ≡ take l.at l.fn.sector ++ flat_map extent_bytes (take l.i l.extents) ++ drop (l.at + 8 * l.i) l.fn.sector;
  in_range : AllByRecursion FitsExtent (take l.i l.extents);
}
