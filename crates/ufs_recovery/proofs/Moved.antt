-- The orphans of an image are those of one with the same inodes and walks.
use Rattle.std.proofs.Common.{◌≡◌, ◌≢◌, ℕ, ◌+◌, ◌⊎◌, inl, inr, List, ap, sym, ◌∙◌}
use Rattle.ufs_base.specs.Images.{Image}
use Rattle.ufs_image.specs.Catalog.{catalog_at}
use Rattle.ufs_image.specs.Changes.{IsReached, IsUnreached}
use Rattle.ufs_image.specs.Images.{form_at}
use Rattle.ufs_image.specs.Walks.{inode_of}
use Rattle.ufs_layout.specs.InodeForm.{InodeForm}
use Rattle.ufs_layout.specs.declared.geometry.Geometry.{Geometry}
use Rattle.ufs_recovery.specs.Cleared.{Numbers}
use Rattle.ufs_recovery.specs.Orphans.{AreOrphans, AreOrphanDirs, AreUnreached}

module _ (g : Geometry) (image other : Image) (walks : (names : List (List ℕ)) → inode_of (catalog_at g other) names ≡ inode_of (catalog_at g image) names) (forms : (k : ℕ) → form_at g other k ≡ form_at g image k) where
  kind_same : (k : ℕ) → (form_at g other k).kind ≡ (form_at g image k).kind
  kind_same k = ap (λ (f : InodeForm). f.kind) (forms k)

  number_same : (k : ℕ) → (form_at g image k).number ≡ (form_at g other k).number
  number_same k = ap (λ (f : InodeForm). f.number) (sym (forms k))

  still_reached : (k : ℕ) → IsReached (catalog_at g image) k → IsReached (catalog_at g other) k
  still_reached k is = record { names = is.names; met = walks is.names ∙ is.met }

  still_unreached : (k : ℕ) → IsUnreached (catalog_at g image) k → IsUnreached (catalog_at g other) k
  still_unreached k is names met = is names (sym (walks names) ∙ met)

  unreached_moved : (numbers : Numbers) → AreUnreached (catalog_at g image) numbers → AreUnreached (catalog_at g other) numbers
  unreached_moved numbers is place number e = let was = is place number e in (still_unreached (place + 1) was.0, was.1 ∙ number_same (place + 1))

  pub orphans_moved : (numbers : Numbers) → AreOrphans g (catalog_at g image) numbers → AreOrphans g (catalog_at g other) numbers
  orphans_moved numbers is = record { sized = is.sized; unreached = unreached_moved numbers is.unreached; others = λ place e. by place (is.others place e) }
    where
      by : (place : ℕ) → IsReached (catalog_at g image) (place + 1) ⊎ ((form_at g image (place + 1)).kind ≡ 0) → IsReached (catalog_at g other) (place + 1) ⊎ ((form_at g other (place + 1)).kind ≡ 0)
      by place (inl reach) = inl (still_reached (place + 1) reach)
      by place (inr free) = inr (kind_same (place + 1) ∙ free)

  pub dirs_moved : (numbers : Numbers) → AreOrphanDirs g (catalog_at g image) numbers → AreOrphanDirs g (catalog_at g other) numbers
  dirs_moved numbers is = record {
    sized = is.sized;
    unreached = unreached_moved numbers is.unreached;
    dirs = λ place number e. kind_same (place + 1) ∙ is.dirs place number e;
    others = λ place e. by place (is.others place e);
  }
    where
      by : (place : ℕ) → IsReached (catalog_at g image) (place + 1) ⊎ ((form_at g image (place + 1)).kind ≢ 2) → IsReached (catalog_at g other) (place + 1) ⊎ ((form_at g other (place + 1)).kind ≢ 2)
      by place (inl reach) = inl (still_reached (place + 1) reach)
      by place (inr off) = inr (λ dir. off (sym (kind_same (place + 1)) ∙ dir))
