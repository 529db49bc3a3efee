-- An image that is made clean behind a barrier.
use Rattle.std.proofs.Common.{◌≡◌, ℕ, Bool, refl, sym, subst}
use Rattle.ufs_base.specs.Images.{Image}
use Rattle.ufs_disk.specs.Disk.{IsImage, IsSettled, Leaves, State, seen}
use Rattle.ufs_disk.specs.Moments.{LeavesOnly, Moments, reads}
use Rattle.ufs_disk.proofs.Images.{seen_is_image}
use Rattle.ufs_disk.proofs.Runs.{goes_on, weaker}
use Rattle.ufs_image.specs.Proper.{IsProperImage}
use Rattle.ufs_recovery.specs.Home.{KeepsTree, OpensAlike}
use Rattle.ufs_recovery.specs.Recovered.{IsProperDisk}
use Rattle.ufs_brink.specs.Closes.{OpensAsLeft}

-- of a disk on which nothing else may be left
pub as_it_was : (keeps : Bool) (sectors : ℕ) (old new : Moments) → LeavesOnly keeps (IsImage old.state) old new → LeavesOnly keeps (OpensAsLeft sectors old.state) old new
as_it_was keeps sectors old new =
    weaker keeps (IsImage old.state) (OpensAsLeft sectors old.state) (λ image is. record { other = image; left = is; alike = record { tree = refl; proper = λ proper. proper } }) old new

-- behind a barrier
pub proper_behind : (sectors : ℕ) (before after : State) → seen after ≡ seen before → IsSettled after → Leaves (IsProperImage sectors) before → IsProperDisk sectors after
proper_behind sectors before after same settled proper = record {
  settled = settled;
  proper = subst (IsProperImage sectors) (sym same) (proper (seen before) (seen_is_image before));
}

-- behind a recovery from there
pub cleaned : (keeps : Bool) (sectors : ℕ) (old mid new : Moments) → LeavesOnly keeps (IsImage old.state) old mid → reads mid ≡ reads old → IsSettled mid.state → (IsProperDisk sectors mid.state → KeepsTree keeps sectors mid new)
    → Leaves (IsProperImage sectors) old.state → LeavesOnly keeps (OpensAsLeft sectors old.state) old new
cleaned keeps sectors old mid new waited same settled keeps_tree proper =
    goes_on keeps (OpensAsLeft sectors old.state) (OpensAlike sectors (reads mid)) old mid new (as_it_was keeps sectors old mid waited) (keeps_tree (proper_behind sectors old.state mid.state same settled proper))
    (λ image alike. record { other = reads old; left = seen_is_image old.state; alike = subst (λ (other : Image). OpensAlike sectors other image) same alike })
