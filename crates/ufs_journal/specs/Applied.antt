-- Whether the records of a transaction can be applied.
use Rattle.std.specs.Prelude.{ℕ, List, [], ◌∷◌, Bool, false, ◌&&◌, ◌||◌}
use Rattle.ufs_base.specs.Images.{Image}
use Rattle.ufs_image.specs.Fold.{is_in_range, with_valid}
use Rattle.ufs_image.specs.BadSectors.{keeps_too_many}
use Rattle.ufs_layout.specs.declared.geometry.Geometry.{Geometry}
use Rattle.ufs_layout.specs.declared.records.LogRecord.{LogRecord}

-- One of the records, as they are applied in turn to an image, keeps more extents than there are.
abbrev pub keeps_more : Geometry → ℕ → Image → List LogRecord → Image → Bool
keeps_more g number before [] now = false
keeps_more g number before (r ∷ rs) now =
    (is_in_range g r && keeps_too_many g number before now r) || keeps_more g number before rs (with_valid g number before r now)
