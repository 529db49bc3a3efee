-- What images that say the same, or one transaction more, fold to.
use Rattle.std.specs.Prelude.{ℕ}
use Rattle.ufs_base.specs.Images.{Image}
use Rattle.ufs_image.specs.Journal.{committed}
use Rattle.ufs_image.specs.Fold.{with_committed, folded}
use Rattle.ufs_layout.specs.declared.geometry.Geometry.{Geometry}
use Rattle.ufs_layout.specs.declared.records.Committed.{Committed}
use Rattle.ufs_journal.specs.Found.{AgreeOffJournal}
use Rattle.ufs_journal.specs.Written.{SaysTheSame, CommitsOne}

-- with all that is committed
abbrev pub folded_image : Geometry → ℕ → Image → Image
folded_image g epoch image = folded g (committed g epoch image) image

-- But for the journal the folded images are the same; or the one is the other with one transaction more.
pub record FoldsAlike (g : Geometry) : Type 0 where
  pub same : (epoch : ℕ) (before image : Image) → SaysTheSame g epoch before image → AgreeOffJournal g (folded_image g epoch image) (folded_image g epoch before)
  pub more : (epoch : ℕ) (one : Committed) (before image : Image) → CommitsOne g epoch one before image
      → AgreeOffJournal g (folded_image g epoch image) (with_committed g one (folded_image g epoch before))
