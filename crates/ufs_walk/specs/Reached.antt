-- Which inodes walks from the root meet.
use Rattle.std.specs.Prelude.{ℕ, ◌≡◌, ◌+◌, List, Bool, true, false, length, Some}
use Rattle.std.specs.List.{slice_get}
use Rattle.ufs_layout.specs.declared.geometry.Geometry.{Geometry}
use Rattle.ufs_image.specs.Catalog.{Catalog}
use Rattle.ufs_image.specs.Changes.{IsReached, IsUnreached}

-- The marks say of each inode, that of inode 1 first, whether a walk from the root meets it.
pub record AreReachedMarks (g : Geometry) (c : Catalog) (marks : List Bool) : Type 0 where
  pub sized : length marks ≡ g.inodes
  pub reached : (place : ℕ) → slice_get marks place ≡ Some true → IsReached c (place + 1)
  pub others : (place : ℕ) → slice_get marks place ≡ Some false → IsUnreached c (place + 1)
