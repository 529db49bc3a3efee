-- What was read of a disk may be written back behind the reading.
use Rattle.std.proofs.Common.{◌≡◌, ℕ, Bool, None, sym, subst}
use Rattle.std.specs.Prelude.{Ok}
use Rattle.ufs_base.specs.Images.{Image}
use Rattle.ufs_metadata.specs.Reading.{IsReadOnly}
use Rattle.ufs_damage.specs.Findings.{AreFindingsOf, CatalogRead}
use Rattle.ufs_disk.specs.Disk.{IsSettled}
use Rattle.ufs_disk.specs.Moments.{Moments, reads}
use Rattle.ufs_image.specs.Damage.{bad_tree}
use Rattle.ufs_image.specs.Volume.{volume}
use Rattle.ufs_overlay.specs.Seen.{HasAdded}
use Rattle.ufs_volume.specs.Volumes.{committed_in, folded_image, highest_number, volume_in}
use Rattle.ufs_volume.specs.declared.volume.FoldedVolume.{FoldedVolume}
use Rattle.ufs_recovery.specs.Finished.{IsWrittenBack, MayWriteBack}
use Rattle.ufs_recovery.specs.Home.{KeepsTree}
use Rattle.ufs_recovery.specs.Recovered.{IsCleanDisk, IsProperDisk, IsRecovered}
use Rattle.ufs_recovery.proofs.Ends.{is_clean, is_recovered, may_write_back}
use Rattle.ufs_recovery.proofs.SuperblockPut.{keeps_settled, kept_on, still_settled}

-- This was read of the disk's image, undamaged.
pub record IsReadWhole (sectors : ℕ) (image : Image) (v : FoldedVolume) (findings : CatalogRead) : Type 0 where
  pub taken : volume sectors image ≡ Ok (volume_in v image)
  pub added : HasAdded v.overlay (committed_in v image)
  pub highest : v.highest ≡ highest_number (committed_in v image)
  pub found : AreFindingsOf v.superblock.geometry (folded_image v image) findings
  pub whole : bad_tree v.superblock.geometry (folded_image v image) ≡ None

module _ (keeps : Bool) (sectors now : ℕ) (same : now ≡ sectors) (old mid new : Moments) (read : IsReadOnly keeps old mid)
    (v : FoldedVolume) (findings : CatalogRead) (is : IsReadWhole sectors (reads old) v findings) where
  behind : {X : Type 0} → (IsSettled mid.state → MayWriteBack now (reads mid) v findings → X) → IsProperDisk sectors old.state → X
  behind leads proper = leads (still_settled keeps old mid read proper.settled)
      (subst (λ n. MayWriteBack n (reads mid) v findings) (sym same) (subst (λ (d : Image). MayWriteBack sectors d v findings) (sym read.content)
      (may_write_back sectors (reads old) v is.taken findings is.added is.found is.whole proper.proper)))

  pub kept_behind : (IsSettled mid.state → MayWriteBack now (reads mid) v findings → KeepsTree keeps now mid new) → IsProperDisk sectors old.state → KeepsTree keeps sectors old new
  kept_behind leads proper =
      kept_on keeps sectors old mid new (keeps_settled keeps sectors old mid proper.settled read.crash) (subst (λ n. KeepsTree keeps n mid new) same (behind leads proper))

  module _ (written : IsSettled mid.state → MayWriteBack now (reads mid) v findings → IsWrittenBack now v.superblock.superblock (folded_image v (reads mid)) v.highest (reads new)) (proper : IsProperDisk sectors old.state) where
    written_here : IsWrittenBack sectors v.superblock.superblock (folded_image v (reads old)) v.highest (reads new)
    written_here = subst (λ (x : ℕ × Image). IsWrittenBack x.0 v.superblock.superblock (folded_image v x.1) v.highest (reads new)) (λ i. (same i, read.content i)) (behind written proper)

    pub clean_behind : IsSettled new.state → IsCleanDisk sectors new.state
    clean_behind settled = is_clean sectors new.state v.superblock.superblock (folded_image v (reads old)) v.highest settled written_here

    pub recovered_behind : IsRecovered (reads old) (reads new)
    recovered_behind = is_recovered sectors (reads old) v is.taken is.highest (reads new) written_here
