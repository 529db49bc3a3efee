-- Reads, barriers and checkpoints leave the trees.
use Rattle.std.proofs.Common.{◌≡◌, ◌⊎◌, inl, inr, ⊎_elim, ℕ, ◌+◌, ◌*◌, ◌<◌, ◌≤◌, ◌++◌, List, ap, refl, ◌∙◌, arith}
use Rattle.std.specs.Prelude.{zero, suc}
use Rattle.ufs_base.specs.Images.{Image}
use Rattle.ufs_disk.specs.Disk.{Cell, State, IsImage, Leaves, bytes_from, seen}
use Rattle.ufs_layout.specs.Superblock.{geometry_of}
use Rattle.ufs_layout.specs.declared.geometry.Geometry.{Geometry}
use Rattle.ufs_layout.specs.declared.superblock.Super.{Super}
use Rattle.ufs_image.specs.Opens.{opens}
use Rattle.ufs_model.specs.PosixTree.{Paths}
use Rattle.ufs_ledger.specs.Ledger.{Ledger, IsLeft, IsLeftBy}
use Rattle.ufs_ledger.specs.Changes.{beginning, home_cells, without_log}
use Rattle.ufs_ledger.specs.Data.{KeepsData}
use Rattle.ufs_ledger.specs.Kept.{Numbers}
use Rattle.ufs_ledger.proofs.Mixing.{read_bytes}
use Rattle.ufs_ledger.proofs.States.{on_one}
use Rattle.ufs_hand_laws.specs.Parts.{Cells}
use Rattle.ufs_hand_laws.specs.DiskBytes.{state_of}
use Rattle.ufs_store_steps.specs.Cells.{AreCellsOf}
use Rattle.ufs_store_steps.specs.Steps.{BlocksRead, StoredHasFiles, IsBefore, QuietCallsOpenAlike, CheckpointsOpenAlike, EmptiedOpensAlike}
use Rattle.ufs_store_steps.proofs.Within.{left_within}
use Rattle.ufs_store_steps.proofs.Cells.{cell_within, cells_open_as}
use Rattle.ufs_store_steps.proofs.Shows.{shows_files, one_tree_of}
use Rattle.ufs_store_steps.proofs.Stands.{was_within, was_shown, same_files, beginning_left, emptied_left, without_log_files}

-- ---- blocks as they read

bytes_alike : (one other : Image) (n s limit : ℕ) → s + n ≤ limit → ((k : ℕ) → k < limit → one k ≡ other k) → bytes_from one s n ≡ bytes_from other s n
bytes_alike one other zero s limit room same = refl
bytes_alike one other (suc n) s limit room same = let i = bytes_alike one other n (s + 1) limit (omega (arith, room)) same in let h = same s (omega (arith, room)) in λ j. h j ++ i j

pub blocks_read : BlocksRead
blocks_read sectors state l cells block are is data' free room =
    bytes_alike (seen (state_of cells)) (seen state) 8 (block * 8) sectors (omega (arith, room)) (λ k low. ap (λ (c : Cell). c.seen) (cell_within sectors state cells are k low))
    ∙ ap (λ s. bytes_from (seen state) s 8) (let e : block * 8 ≡ 8 * block = omega arith in e) ∙ read_bytes (seen state) 8 (8 * block) ∙ is.reads block data' free

pub stored_has_files : (g : Geometry) → StoredHasFiles g
stored_has_files g blocks s start history names files n stored = record { numbered = stored.paths; inodes = stored.inodes; unheld = stored.unheld }

-- ---- reads and barriers

pub quiet_calls : (g : Geometry) → QuietCallsOpenAlike g
quiet_calls g sectors old new l n paths one other is are less =
    cells_open_as sectors old new one other is.told are (was_within g sectors old l n paths one is) (λ image again left same. was_within g sectors old l n paths one is image again (less image left) same)
    (λ image left. (image, less image left, refl))

-- ---- checkpoints

module _ (g : Geometry) (sectors : ℕ) (old new : State) (l : Ledger) (n : Numbers) (paths : Paths) (one other : Cells) (superblock : Super) (home : ℕ → List ℕ) (is : IsBefore g sectors old l n paths one) (are : AreCellsOf sectors new other)
    (same : geometry_of superblock ≡ g) (data' : Leaves (KeepsData g l.now.log old) new) where
  -- by the stand that was, or by that one without its journal
  by_now : (image : Image) → IsImage new image → (top : Super) (blocks : ℕ → Cell) → geometry_of top ≡ g → IsLeft sectors top blocks l.now image → (before : Image) × IsImage old before × (opens sectors image ≡ opens sectors before)
  by_now image at top blocks top_same left =
      let k = data' image at in (
        k.before,
        k.left,
        one_tree_of sectors image k.before l.now l.now n n paths (shows_files g sectors top blocks l.now image left top_same n paths is.files) (was_shown g sectors old l n paths one is k.before k.left)
            (same_files g sectors old l n paths one is image k),
      )

  by_home : (image : Image) → IsImage new image → IsLeft sectors superblock (home_cells home l) (without_log l.now) image → (before : Image) × IsImage old before × (opens sectors image ≡ opens sectors before)
  by_home image at left =
      let k = data' image at in (
        k.before,
        k.left,
        one_tree_of sectors image k.before (without_log l.now) l.now n n paths (shows_files g sectors superblock (home_cells home l) (without_log l.now) image left same n paths (without_log_files g l.now n paths is.files))
            (was_shown g sectors old l n paths one is k.before k.left) (same_files g sectors old l n paths one is image k),
      )

  within : (image again : Image) → IsLeftBy sectors l image ⊎ IsLeftBy sectors (beginning superblock home l) image → ((s : ℕ) → s < sectors → image s ≡ again s) → opens sectors again ≡ opens sectors image
  within image again (inl left) alike = left_within sectors l.superblock l.blocks l.now image again (on_one sectors l image is.none left) alike
  within image again (inr left) alike = ⊎_elim (λ a. left_within sectors l.superblock (home_cells home l) l.now image again a alike) (λ b. left_within sectors superblock (home_cells home l) (without_log l.now) image again b alike) (beginning_left sectors l image superblock home left)

  step : (image : Image) → IsImage new image → IsLeftBy sectors l image ⊎ IsLeftBy sectors (beginning superblock home l) image → (before : Image) × IsImage old before × (opens sectors image ≡ opens sectors before)
  step image at (inl left) = by_now image at l.superblock l.blocks is.geometry (on_one sectors l image is.none left)
  step image at (inr left) = ⊎_elim (λ a. by_now image at l.superblock (home_cells home l) is.geometry a) (λ b. by_home image at b) (beginning_left sectors l image superblock home left)

pub checkpoints : (g : Geometry) → CheckpointsOpenAlike g
checkpoints g sectors old new l n paths one other superblock home is are same data' leaves =
    cells_open_as sectors old new one other is.told are (was_within g sectors old l n paths one is)
    (λ image again left alike. within g sectors old new l n paths one other superblock home is are same data' image again (leaves image left) alike)
    (λ image left. step g sectors old new l n paths one other superblock home is are same data' image left (leaves image left))

pub emptied_alike : (g : Geometry) → EmptiedOpensAlike g
emptied_alike g sectors old new l n paths one other superblock home is are same data' ledger =
    cells_open_as sectors old new one other is.told are (was_within g sectors old l n paths one is)
    (λ image again left alike. left_within sectors superblock (home_cells home l) (without_log l.now) image again (emptied_left sectors l image superblock home (ledger.images image left)) alike)
    (λ image left. by_home g sectors old new l n paths one other superblock home is are same data' image left (emptied_left sectors l image superblock home (ledger.images image left)))
