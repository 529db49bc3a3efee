-- A commit, by the trees of what a crash leaves: each image is left by the stand of before, or by the one with the transaction.
use Rattle.std.proofs.Common.{◌≡◌, ◌⊎◌, inl, inr, ⊎_elim, ℕ, ◌<◌, subst}
use Rattle.ufs_base.specs.Images.{Image}
use Rattle.ufs_disk.specs.Disk.{Cell, State, IsImage, Leaves}
use Rattle.ufs_layout.specs.Superblock.{geometry_of}
use Rattle.ufs_layout.specs.declared.geometry.Geometry.{Geometry}
use Rattle.ufs_layout.specs.declared.records.Committed.{Committed}
use Rattle.ufs_image.specs.Opens.{opens}
use Rattle.ufs_model.specs.PosixTree.{Paths}
use Rattle.ufs_model.specs.Start.{PathNodes}
use Rattle.ufs_ledger.specs.Ledger.{with_one, Ledger, IsLeft, IsLeftBy, IsLedgerOf}
use Rattle.ufs_ledger.specs.Changes.{committing, committed_one, settled}
use Rattle.ufs_ledger.specs.Data.{KeepsData}
use Rattle.ufs_ledger.specs.Kept.{Numbers}
use Rattle.ufs_ledger.proofs.States.{on_one}
use Rattle.ufs_hand_laws.specs.Parts.{Cells}
use Rattle.ufs_hand_laws.specs.Commits.{TreesGo, TreesMayGo}
use Rattle.ufs_store_steps.specs.Cells.{AreCellsOf}
use Rattle.ufs_store_steps.specs.Steps.{IsBefore}
use Rattle.ufs_store_steps.proofs.Within.{left_within}
use Rattle.ufs_store_steps.proofs.Cells.{ImageGoes, cells_go, cells_may_go}
use Rattle.ufs_store_steps.proofs.Shows.{file_content, ShowsFiles, shows_files, one_tree_of}
use Rattle.ufs_store_steps.proofs.Stands.{was_within, was_shown, same_files, committing_left, committed_left}

module _ (g : Geometry) (sectors : ℕ) (old new : State) (l : Ledger) (n : Numbers) (paths : Paths) (one other : Cells) (t : Committed) (is : IsBefore g sectors old l n paths one) (are : AreCellsOf sectors new other) (data' : Leaves (KeepsData g l.now.log old) new)
    (Goes : PathNodes → PathNodes → Type 0)
    (goes : (image : Image) → IsLeft sectors l.superblock (settled l).blocks (with_one g t l.now) image → (before : Image) → ShowsFiles sectors before l.now n paths → ((f : ℕ) → file_content image l.now n f ≡ file_content before l.now n f)
    → ImageGoes sectors Goes before image) where
  by_now : (image : Image) → IsImage new image → (blocks : ℕ → Cell) → IsLeft sectors l.superblock blocks l.now image → (before : Image) × IsImage old before × ((opens sectors image ≡ opens sectors before) ⊎ ImageGoes sectors Goes before image)
  by_now image at blocks left =
      let k = data' image at in (
        k.before,
        k.left,
        inl (one_tree_of sectors image k.before l.now l.now n n paths (shows_files g sectors l.superblock blocks l.now image left is.geometry n paths is.files) (was_shown g sectors old l n paths one is k.before k.left)
            (same_files g sectors old l n paths one is image k)),
      )

  by_after : (image : Image) → IsImage new image → IsLeft sectors l.superblock (settled l).blocks (with_one (geometry_of l.superblock) t l.now) image → (before : Image) × IsImage old before × ImageGoes sectors Goes before image
  by_after image at left =
      let k = data' image at in (
        k.before,
        k.left,
        goes image (subst (λ g. IsLeft sectors l.superblock (settled l).blocks (with_one g t l.now) image) is.geometry left) k.before (was_shown g sectors old l n paths one is k.before k.left) (same_files g sectors old l n paths one is image k),
      )

  within : (image again : Image) → IsLeftBy sectors l image ⊎ IsLeftBy sectors (committing t (settled l)) image → ((s : ℕ) → s < sectors → image s ≡ again s) → opens sectors again ≡ opens sectors image
  within image again (inl left) alike = left_within sectors l.superblock l.blocks l.now image again (on_one sectors l image is.none left) alike
  within image again (inr left) alike = ⊎_elim (λ a. left_within sectors l.superblock (settled l).blocks l.now image again a alike)
      (λ b. left_within sectors l.superblock (settled l).blocks (with_one (geometry_of l.superblock) t l.now) image again b alike) (committing_left sectors l image t left)

  step : (image : Image) → IsImage new image → IsLeftBy sectors l image ⊎ IsLeftBy sectors (committing t (settled l)) image → (before : Image) × IsImage old before × ((opens sectors image ≡ opens sectors before) ⊎ ImageGoes sectors Goes before image)
  step image at (inl left) = by_now image at l.blocks (on_one sectors l image is.none left)
  step image at (inr left) = ⊎_elim (λ a. by_now image at (settled l).blocks a) (λ b. let z = by_after image at b in (z.0, z.1, inr z.2)) (committing_left sectors l image t left)

  pub commit_may_go : Leaves (λ image. IsLeftBy sectors l image ⊎ IsLeftBy sectors (committing t (settled l)) image) new → TreesMayGo Goes one other
  commit_may_go leaves =
      cells_may_go sectors old new one other is.told are (was_within g sectors old l n paths one is) (λ image again left alike. within image again (leaves image left) alike) Goes (λ image left. step image left (leaves image left))

  pub commit_goes : IsLedgerOf sectors new (committed_one t l) → TreesGo Goes one other
  commit_goes ledger =
      cells_go sectors old new one other is.told are (was_within g sectors old l n paths one is)
      (λ image again left alike. left_within sectors l.superblock (settled l).blocks (with_one (geometry_of l.superblock) t l.now) image again (committed_left sectors l image t is.none (ledger.images image left)) alike) Goes
      (λ image left. by_after image left (committed_left sectors l image t is.none (ledger.images image left)))
