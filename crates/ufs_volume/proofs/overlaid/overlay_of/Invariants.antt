use Rattle.std.proofs.Common.{◌≡◌, take}
use Rattle.std.specs.Prelude.{IsTrue}
use Rattle.ufs_overlay.specs.Over.{rise_above}
use Rattle.ufs_overlay.specs.Seen.{HasAdded, geometry_of}
use Rattle.ufs_volume.proofs.overlaid.overlay_of.Given as goal

abbrev pub invariant-loop-at : goal.invariant-loop-at
invariant-loop-at l = record {
  added : IsTrue (rise_above 0 l.list) → HasAdded l.overlay (take l.at l.list);
  geometry : geometry_of l.overlay ≡ l.geometry;
}
