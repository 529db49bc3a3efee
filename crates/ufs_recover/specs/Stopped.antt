-- What formatting leaves on a disk, also where it is stopped on the way.
use Rattle.std.specs.Prelude.{◌≡◌, ◌⊎◌, ℕ, List, [], Ok, Err}
use Rattle.ufs_base.specs.Images.{Image}
use Rattle.ufs_disk.specs.Disk.{State, IsImage, IsSettled, seen, put}
use Rattle.ufs_image.specs.Formatted.{IsFormatted, empty_sector}
use Rattle.ufs_image.specs.Volume.{volume, NoSuperblock}
use Rattle.ufs_image.specs.Opens.{opens, root_tree, damage_list}
use Rattle.ufs_image.specs.Proper.{IsProperImage}
use Rattle.ufs_layout.specs.declared.geometry.Geometry.{Geometry}
use Rattle.ufs_recover.specs.Tables.{HasZeroTails}

-- a new image on a disk of so many sectors: it stands for the root alone, nothing in it is damaged, and it is proper
pub record IsNew (g : Geometry) (sectors : ℕ) (image : Image) : Type 0 where
  pub formatted : IsFormatted g image
  pub tails : HasZeroTails g image
  pub root_alone : opens sectors image ≡ Ok root_tree
  pub undamaged : damage_list sectors image ≡ Ok []
  pub proper : IsProperImage sectors image

-- Nothing is pending, and the disk reads a new image.
pub record IsNewDisk (g : Geometry) (sectors : ℕ) (state : State) : Type 0 where
  pub settled : IsSettled state
  pub new : IsNew g sectors (seen state)

-- It is refused as having no superblock.
abbrev pub IsRefused : ℕ → Image → Type 0
IsRefused sectors image = volume sectors image ≡ Err NoSuperblock

-- What a crash leaves while a disk in this state is formatted: whole what it might have left before, an image that is
-- refused, or a new one.
abbrev pub IsStopped : Geometry → ℕ → State → Image → Type 0
IsStopped g sectors before image = IsImage before image ⊎ (IsRefused sectors image ⊎ IsNew g sectors image)

-- ---- the steps of it

-- The superblock's sector has nothing but zeros.
abbrev pub IsBlank : Image → Type 0
IsBlank image = image 0 ≡ empty_sector

-- an image of the state, as it was or with these bytes in the superblock's sector
pub record HasSuperblockPut (bytes : List ℕ) (state : State) (image : Image) : Type 0 where
  pub before : Image
  pub left : IsImage state before
  pub is : (image ≡ before) ⊎ (image ≡ put 0 bytes before)
