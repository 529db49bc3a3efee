-- What the definitions of an image mean.
use Rattle.std.specs.Prelude.{ℕ, ◌≡◌, ◌≤◌, ◌<◌, ◌+◌, ◌*◌, ◌==◌, false, [], Ok}
use Rattle.ufs_base.specs.declared.sizes.TheConstants.{SECTORS_PER_BLOCK}
use Rattle.ufs_layout.specs.Areas.{sector_count, first_of_journal}
use Rattle.ufs_base.specs.Images.{Image}
use Rattle.ufs_image.specs.Journal.{epoch_in, committed}
use Rattle.ufs_image.specs.Fold.{folded}
use Rattle.ufs_image.specs.Opens.{opens, root_tree, damage_list}
use Rattle.ufs_image.specs.Proper.{IsProperImage}
use Rattle.ufs_image.specs.Formatted.{IsFormatted, new_volume, new_catalog}
use Rattle.ufs_image.specs.Standing.{IsVolumeOf}
use Rattle.ufs_layout.specs.declared.geometry.Geometry.{Geometry}

-- A new image on a disk that is large enough stands for the root alone.
abbrev pub OpensToRoot : Geometry → Type 0
OpensToRoot g = (sectors : ℕ) (image : Image) → IsFormatted g image → sector_count g ≤ sectors → opens sectors image ≡ Ok root_tree

-- Nothing in it is damaged.
abbrev pub BeginsWhole : Geometry → Type 0
BeginsWhole g = (sectors : ℕ) (image : Image) → IsFormatted g image → sector_count g ≤ sectors → damage_list sectors image ≡ Ok []

-- It is proper.
abbrev pub BeginsProper : Geometry → Type 0
BeginsProper g = (sectors : ℕ) (image : Image) → IsFormatted g image → sector_count g ≤ sectors → IsProperImage sectors image

-- It has the catalog of the root alone, which is sound.
abbrev pub BeginsSound : Geometry → Type 0
BeginsSound g = (sectors : ℕ) (image : Image) → IsFormatted g image → sector_count g ≤ sectors → IsVolumeOf sectors image (new_volume g image) new_catalog

-- Where no journal sector has the epoch, folding changes nothing.
abbrev pub FoldsNothing : Geometry → Type 0
FoldsNothing g = (epoch : ℕ) (image : Image) → ((s : ℕ) → s < g.journal → (epoch_in (image (SECTORS_PER_BLOCK * first_of_journal g + s)) == epoch) ≡ false) → folded g (committed g epoch image) image ≡ image
