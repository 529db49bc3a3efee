-- A volume's overlay shows its folded sectors.
use Rattle.std.proofs.Common.{◌≡◌, ℕ, Ok, ap, sym, subst}
use Rattle.ufs_base.specs.Images.{Image}
use Rattle.ufs_layout.specs.declared.geometry.Geometry.{Geometry}
use Rattle.ufs_image.specs.Fold.{folded}
use Rattle.ufs_image.specs.Journal.{committed}
use Rattle.ufs_image.specs.Volume.{Volume, volume, volume_of, superblock_of}
use Rattle.ufs_image.proofs.Journals.{taken}
use Rattle.ufs_overlay.specs.Seen.{HasAdded}
use Rattle.ufs_metadata.specs.Folded.{IsFolded}
use Rattle.ufs_volume.specs.Journals.{AreFoldable}
use Rattle.ufs_volume.specs.Volumes.{committed_in, folded_image, volume_in}
use Rattle.ufs_volume.specs.declared.volume.FoldedVolume.{FoldedVolume}
use Rattle.ufs_volume.proofs.Forms.{committed_fold}

pub is_folded : (v : FoldedVolume) (disk : Image) → HasAdded v.overlay (committed_in v disk) → IsFolded v.overlay disk (folded_image v disk)
is_folded v disk has = record { added = committed_in v disk; has = has; same = ap (λ (g : Geometry). folded g (committed_in v disk) disk) (sym v.same) }

-- What is committed can be folded.
pub can_fold : (sectors : ℕ) (v : FoldedVolume) (disk : Image) → volume sectors disk ≡ Ok (volume_in v disk) → AreFoldable v.superblock.geometry (committed_in v disk)
can_fold sectors v disk is =
    let t = taken sectors disk (volume_in v disk) is in
    subst (λ (w : Volume). AreFoldable w.geometry (committed w.geometry w.superblock.epoch disk)) (sym t.same) (committed_fold (volume_of (superblock_of disk) disk).geometry (superblock_of disk) disk t.journal)
