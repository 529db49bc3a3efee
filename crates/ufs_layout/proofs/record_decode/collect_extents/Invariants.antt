use Rattle.std.proofs.Common.{◌≡◌, true}
use Rattle.std.specs.List.{list_all}
use Rattle.ufs_layout.specs.InodeForm.{extents_at, is_extent}
use Rattle.ufs_layout.proofs.record_decode.collect_extents.Given as goal

abbrev pub invariant-loop-i : goal.invariant-loop-i
invariant-loop-i l = record {
  taken : l.extents.items ≡ extents_at l.i l.area;
  used : list_all is_extent (extents_at l.i l.area) ≡ true;
}
