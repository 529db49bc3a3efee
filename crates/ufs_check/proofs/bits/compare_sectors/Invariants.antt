use Rattle.std.proofs.Common.{◌≡◌, ◌+◌, ◌*◌, ◌++◌, List, map}
use Rattle.std.specs.List.{range_with_len}
use Rattle.ufs_base.specs.Images.{Image}
use Rattle.ufs_layout.specs.declared.geometry.Geometry.{Geometry}
use Rattle.ufs_image.specs.Nodes.{Node}
use Rattle.ufs_image.specs.Damage.{BitmapDiffers, differing}
use Rattle.ufs_damage.specs.Taken.{AreTaken}
use Rattle.ufs_metadata.specs.Reading.{AreSectors}
use Rattle.ufs_check.proofs.bits.compare_sectors.Given as goal

abbrev pub invariant-loop-i : goal.invariant-loop-i
invariant-loop-i l = (g : Geometry) (image : Image) (nodes : List Node) → AreTaken g nodes l.taken → AreSectors image (8 * (1 + l.place)) l.bytes
    → l.list ≡ l.fn.list ++ map BitmapDiffers (differing g image nodes (range_with_len (32768 * l.place) (4096 * l.i)))
