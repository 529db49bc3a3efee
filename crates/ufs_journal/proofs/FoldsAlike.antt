-- Images that say the same fold to the same, but for the journal.
use Rattle.std.proofs.Common.{◌≡◌, ⊎_elim, ℕ, ◌<◌, ◌≤◌, List, [], ◌∷◌, ◌++◌, refl, ap, ◌∙◌, arith}
use Rattle.ufs_base.specs.Images.{Image}
use Rattle.ufs_image.specs.Journal.{committed}
use Rattle.ufs_image.specs.Fold.{with_committed, folded}
use Rattle.ufs_layout.specs.declared.geometry.Geometry.{Geometry}
use Rattle.ufs_layout.specs.declared.records.Committed.{Committed}
use Rattle.ufs_journal.specs.Found.{AgreeOffJournal, journal_sector}
use Rattle.ufs_journal.specs.Written.{DiffersInEpoch, SaysTheSame, CommitsOne}
use Rattle.ufs_journal.specs.Folding.{folded_image}
use Rattle.ufs_journal.proofs.Frame.{folded_agree}

differs_off : (g : Geometry) (epoch : ℕ) (before image : Image) → DiffersInEpoch g epoch before image → AgreeOffJournal g image before
differs_off g epoch before image differs s off = ⊎_elim (λ same. same)
    (λ is. let from = is.from in let under = is.under in ⊎_elim (λ (low : s < journal_sector g 0). absurd (omega arith)) (λ (high : journal_sector g g.journal ≤ s). absurd (omega arith)) off) (differs s)

folded_push : (g : Geometry) (cs : List Committed) (c : Committed) (d : Image) → folded g (cs ++ c ∷ []) d ≡ with_committed g c (folded g cs d)
folded_push g [] c d = refl
folded_push g (x ∷ xs) c d = folded_push g xs c (with_committed g x d)

pub same_folds : (g : Geometry) (epoch : ℕ) (before image : Image) → SaysTheSame g epoch before image → AgreeOffJournal g (folded_image g epoch image) (folded_image g epoch before)
same_folds g epoch before image says s off = ap (λ cs. folded g cs image s) says.same ∙ folded_agree g (committed g epoch before) image before (differs_off g epoch before image says.differs) s off

pub more_folds : (g : Geometry) (epoch : ℕ) (one : Committed) (before image : Image) → CommitsOne g epoch one before image → AgreeOffJournal g (folded_image g epoch image) (with_committed g one (folded_image g epoch before))
more_folds g epoch one before image commits s off = ap (λ cs. folded g cs image s) commits.more
    ∙ folded_agree g (committed g epoch before ++ one ∷ []) image before (differs_off g epoch before image commits.differs) s off
    ∙ ap (λ (d : Image). d s) (folded_push g (committed g epoch before) one before)
