-- Each content of a disk is a sector, so each image is one of so many sectors.
use Rattle.std.proofs.Common.{◌≡◌, ℕ, subst}
use Rattle.ufs_disk.specs.Disk.{State, IsWhole, Leaves}
use Rattle.ufs_image.specs.Images.{IsImageOf}

pub images_of : (size : ℕ) (state : State) → IsWhole size state → Leaves (IsImageOf size) state
images_of size state whole image left sector less = whole.within sector less (image sector) (left sector)

-- the same by another word for the size
pub sized_images : (size other : ℕ) → other ≡ size → (state : State) → IsWhole other state → Leaves (IsImageOf size) state
sized_images size other same state whole = images_of size state (subst (λ n. IsWhole n state) same whole)
