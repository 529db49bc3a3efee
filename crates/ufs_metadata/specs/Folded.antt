-- An image that is read through an overlay.
use Rattle.std.specs.Prelude.{◌≡◌, List}
use Rattle.ufs_base.specs.Images.{Image}
use Rattle.ufs_layout.specs.declared.records.Committed.{Committed}
use Rattle.ufs_image.specs.Fold.{folded}
use Rattle.ufs_overlay.specs.Seen.{HasAdded, geometry_of}
use Rattle.ufs_overlay.specs.declared.overlay.Overlay.{Overlay}

-- The image is what the overlay's transactions leave of the sectors that a disk reads.
pub record IsFolded (overlay : Overlay) (home image : Image) : Type 0 where
  pub added : List Committed
  pub has : HasAdded overlay added
  pub same : image ≡ folded (geometry_of overlay) added home
