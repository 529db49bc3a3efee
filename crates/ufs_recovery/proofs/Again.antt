-- Where orphans were freed, the inodes are read again, and files are cut.
use Rattle.std.proofs.Common.{◌≡◌, ℕ, Bool, sym, subst}
use Rattle.ufs_base.specs.Images.{Image}
use Rattle.ufs_metadata.specs.Reading.{IsReadOnly}
use Rattle.ufs_damage.specs.Findings.{AreFindingsOf, CatalogRead}
use Rattle.ufs_disk.specs.Disk.{IsSettled}
use Rattle.ufs_disk.specs.Moments.{Moments, reads}
use Rattle.ufs_layout.specs.declared.geometry.Geometry.{Geometry}
use Rattle.ufs_layout.specs.declared.superblock.Super.{Super}
use Rattle.ufs_recovery.specs.Cleared.{Numbers}
use Rattle.ufs_recovery.specs.Finished.{IsTidy}
use Rattle.ufs_recovery.specs.Fitted.{GetsFitted, HasFitted, MayFit}
use Rattle.ufs_recovery.specs.Home.{KeepsTree}
use Rattle.ufs_recovery.specs.Orphans.{AreFreed, IsPruned, IsReadOf, MayPrune}
use Rattle.ufs_recovery.proofs.Fits.{is_tidy, may_fit, read_itself}
use Rattle.ufs_recovery.proofs.SuperblockPut.{kept_on, kept_quietly, still_settled}

module _ (keeps : Bool) (sectors now : ℕ) (still : now ≡ sectors) (g : Geometry) (old mid last new : Moments) (numbers dirs : Numbers) (found : CatalogRead)
    (read : IsReadOnly keeps mid last) (are : AreFindingsOf g (reads mid) found) where
  pub read_last : IsReadOf g (reads last) found
  read_last = subst (λ (d : Image). IsReadOf g d found) (sym read.content) (read_itself g (reads mid) found are)

  module _ (freed : AreFreed sectors g numbers dirs (reads old) (reads mid)) (superblock : Super) (may : MayPrune sectors superblock (reads old) g numbers dirs) where
    pruned_last : IsPruned sectors superblock (reads old) (reads last)
    pruned_last = subst (IsPruned sectors superblock (reads old)) (sym read.content) (freed superblock may)

    may_fit_last : MayFit now superblock (reads last) g found.forms
    may_fit_last = subst (λ n. MayFit n superblock (reads last) g found.forms) (sym still) (may_fit sectors superblock g (reads old) (reads last) numbers dirs found may pruned_last read_last)

    pub tidy_again : GetsFitted now g found.forms (reads last) (reads new) → IsTidy sectors superblock (reads old) (reads new)
    tidy_again fits = is_tidy sectors superblock (reads old) (reads last) (reads new) pruned_last (subst (λ n. HasFitted n superblock (reads last) (reads new)) still (fits superblock may_fit_last))

    pub kept_again : KeepsTree keeps sectors old mid → IsSettled mid.state → (IsSettled last.state → (s : Super) → MayFit now s (reads last) g found.forms → KeepsTree keeps now last new) → KeepsTree keeps sectors old new
    kept_again freeing settled fitting =
        kept_on keeps sectors old last new (kept_quietly keeps sectors old mid last freeing read.crash)
        (subst (λ n. KeepsTree keeps n last new) still (fitting (still_settled keeps mid last read settled) superblock may_fit_last))
