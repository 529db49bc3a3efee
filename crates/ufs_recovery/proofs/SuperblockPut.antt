-- Another superblock is written where all is home.
use Rattle.std.proofs.Common.{◌≡◌, ℕ, ◌⊎◌, inl, inr, List, length, Bool, Some, ap, sym, ◌∙◌, subst}
use Rattle.ufs_base.specs.Images.{Image}
use Rattle.ufs_disk.specs.Disk.{State, IsImage, IsSettled, IsPartlyWritten, seen, put}
use Rattle.ufs_disk.specs.Moments.{Moments, LeavesOnly, reads}
use Rattle.ufs_disk.proofs.Images.{mixed_one, seen_is_image, put_other}
use Rattle.ufs_disk.proofs.Runs.{weaker, joined}
use Rattle.ufs_layout.specs.Superblock.{super_of}
use Rattle.ufs_layout.specs.declared.superblock.Super.{Super}
use Rattle.ufs_image.specs.Opens.{opens}
use Rattle.ufs_image.specs.Proper.{IsProperImage}
use Rattle.ufs_metadata.specs.Reading.{IsReadOnly}
use Rattle.ufs_recovery.specs.Cleared.{HasSectorPut}
use Rattle.ufs_recovery.specs.Home.{IsAtHome, IsBroughtHome, OpensAlike, KeepsTree}
use Rattle.ufs_recovery.proofs.Home.{superblock_put_home, superblock_put_tree}

pub one_put : (sector : ℕ) (bytes : List ℕ) (state : State) (image : Image) → length bytes ≡ 512 → IsPartlyWritten sector bytes state image → HasSectorPut sector bytes state image
one_put sector bytes state image sized from =
    let one = mixed_one sector bytes state image sized from in
    record { before = one.0; left = one.1; is = one.2 }

-- ---- alike

pub alike_same : (sectors : ℕ) (before image : Image) → image ≡ before → OpensAlike sectors before image
alike_same sectors before image e = record { tree = ap (opens sectors) e; proper = subst (λ (d : Image). IsProperImage sectors d) (sym e) }

alike_on : (sectors : ℕ) (first mid image : Image) → OpensAlike sectors first mid → OpensAlike sectors mid image → OpensAlike sectors first image
alike_on sectors first mid image front back = record { tree = back.tree ∙ front.tree; proper = λ is. back.proper (front.proper is) }

-- Where nothing is pending, a disk leaves what it reads.
pub still_opens : (sectors : ℕ) (state : State) → IsSettled state → (image : Image) → IsImage state image → OpensAlike sectors (seen state) image
still_opens sectors state settled image left = alike_same sectors (seen state) image (settled image left)

pub keeps_settled : (keeps : Bool) (sectors : ℕ) (old new : Moments) → IsSettled old.state → LeavesOnly keeps (IsImage old.state) old new → KeepsTree keeps sectors old new
keeps_settled keeps sectors old new settled run = weaker keeps (IsImage old.state) (OpensAlike sectors (reads old)) (still_opens sectors old.state settled) old new run

-- one run behind another
pub kept_on : (keeps : Bool) (sectors : ℕ) (first mid new : Moments) → KeepsTree keeps sectors first mid → KeepsTree keeps sectors mid new → KeepsTree keeps sectors first new
kept_on keeps sectors first mid new front back =
    joined keeps (OpensAlike sectors (reads first)) first mid new front
    (weaker keeps (OpensAlike sectors (reads mid)) (OpensAlike sectors (reads first)) (λ image same. alike_on sectors (reads first) (reads mid) image (front.after (reads mid) (seen_is_image mid.state)) same) mid new back)

-- a barrier or a read behind it
pub kept_quietly : (keeps : Bool) (sectors : ℕ) (first mid new : Moments) → KeepsTree keeps sectors first mid → LeavesOnly keeps (IsImage mid.state) mid new → KeepsTree keeps sectors first new
kept_quietly keeps sectors first mid new front back =
    joined keeps (OpensAlike sectors (reads first)) first mid new front
    (weaker keeps (IsImage mid.state) (OpensAlike sectors (reads first)) front.after mid new back)

module _ (sectors : ℕ) (old : State) (new : Super) (bytes : List ℕ) (spelled : super_of 1 bytes ≡ Some new) (brought : IsBroughtHome sectors (seen old) new) where
  pub superblock_there : IsAtHome sectors new (put 0 bytes (seen old))
  superblock_there = superblock_put_home sectors brought.image brought.as_volume brought.catalog brought.is (seen old) brought.all new bytes spelled brought.geometry brought.earlier

  put_alike : OpensAlike sectors (seen old) (put 0 bytes (seen old))
  put_alike = record {
    tree = superblock_put_tree sectors brought.image brought.as_volume brought.catalog brought.is (seen old) brought.all new bytes spelled brought.geometry brought.earlier ∙ sym brought.same;
    proper = λ was. brought.proper (put 0 bytes (seen old)) superblock_there (λ sector other. put_other 0 sector bytes (seen old) other);
  }

  pub superblock_tree : IsSettled old → (image : Image) → HasSectorPut 0 bytes old image → OpensAlike sectors (seen old) image
  superblock_tree settled image from = by from.is
    where
      was : from.before ≡ seen old
      was = settled from.before from.left

      by : (image ≡ from.before) ⊎ (image ≡ put 0 bytes from.before) → OpensAlike sectors (seen old) image
      by (inl e) = alike_same sectors (seen old) image (e ∙ was)
      by (inr e) = alike_on sectors (seen old) (put 0 bytes (seen old)) image put_alike (alike_same sectors (put 0 bytes (seen old)) image (e ∙ ap (put 0 bytes) was))

-- Nothing is pending after reads.
pub still_settled : (keeps : Bool) (old new : Moments) → IsReadOnly keeps old new → IsSettled old.state → IsSettled new.state
still_settled keeps old new read settled image left = settled image (read.crash.after image left) ∙ sym read.content
