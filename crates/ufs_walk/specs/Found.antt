-- What is known of a list of directories.
use Rattle.std.specs.Prelude.{ℕ, ◌≡◌, ◌≢◌, ◌<◌, List, [], length, Option, Some, None}
use Rattle.std.specs.List.{slice_get}
use Rattle.std.specs.Ordering.{nat_cmp}
use Rattle.std.specs.BTreeMap.{BTreeMap, get}
use Rattle.ufs_base.specs.Images.{Image}
use Rattle.ufs_image.specs.Images.{form_at}
use Rattle.ufs_image.specs.Nodes.{Dir, NamedSlot, names_of}
use Rattle.ufs_image.specs.Opens.{names_in}
use Rattle.ufs_image.specs.Catalog.{IsInode}
use Rattle.ufs_layout.specs.declared.geometry.Geometry.{Geometry}

-- The inode's directory stands there; or none of the list is its.
abbrev pub IsPlaceOf : List Dir → ℕ → Option ℕ → Type 0
IsPlaceOf dirs inode None = (p : ℕ) (d : Dir) → slice_get dirs p ≡ Some d → d.inode ≢ inode
IsPlaceOf dirs inode (Some place) = (place < length dirs) × ((d : Dir) → slice_get dirs place ≡ Some d → d.inode ≡ inode)

abbrev pub IsIndexOf : List Dir → BTreeMap ℕ ℕ → Type 0
IsIndexOf dirs index = (inode : ℕ) → IsPlaceOf dirs inode (get nat_cmp index inode)

-- The directories have the names of all inodes of the image, and these names name inodes.
pub record HasNames (g : Geometry) (image : Image) (dirs : List Dir) : Type 0 where
  pub each : (p : ℕ) (d : Dir) → slice_get dirs p ≡ Some d → names_of d ≡ names_in image d.inode (form_at g image d.inode)
  pub none : (inode : ℕ) → IsInode g inode → ((p : ℕ) (d : Dir) → slice_get dirs p ≡ Some d → d.inode ≢ inode) → names_in image inode (form_at g image inode) ≡ []
  pub named : (inode place : ℕ) (n : NamedSlot) → IsInode g inode → slice_get (names_in image inode (form_at g image inode)) place ≡ Some n → IsInode g n.1.inode
