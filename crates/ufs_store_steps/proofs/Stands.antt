-- What a disk has before a call, and what a crash may leave after it, stand by stand.
use Rattle.std.proofs.Common.{◌≡◌, ◌⊎◌, inl, inr, ℕ, List, None, refl, subst}
use Rattle.std.specs.Prelude.{Ok}
use Rattle.ufs_base.specs.Images.{Image}
use Rattle.ufs_disk.specs.Disk.{State, IsImage, seen}
use Rattle.ufs_disk.proofs.Images.{seen_is_image}
use Rattle.ufs_layout.specs.Superblock.{geometry_of}
use Rattle.ufs_layout.specs.declared.geometry.Geometry.{Geometry}
use Rattle.ufs_layout.specs.declared.records.Committed.{Committed}
use Rattle.ufs_layout.specs.declared.superblock.Super.{Super}
use Rattle.ufs_image.specs.Images.{block_at}
use Rattle.ufs_image.specs.Opens.{ImageTree, opens}
use Rattle.ufs_image.specs.Sound.{IsSoundCatalog}
use Rattle.ufs_model.specs.PosixTree.{Paths}
use Rattle.ufs_model.specs.Start.{PathNodes}
use Rattle.ufs_ledger.specs.Ledger.{Stand, Standing, with_one, Ledger, IsLeft, IsLeftBy}
use Rattle.ufs_ledger.specs.Changes.{committing, committed_one, settled, beginning, emptied, home_cells, without_log}
use Rattle.ufs_ledger.specs.Data.{KeepsData}
use Rattle.ufs_ledger.specs.Kept.{Numbers, shape_of}
use Rattle.ufs_ledger.proofs.States.{on_one}
use Rattle.ufs_hand_laws.specs.Parts.{Cells}
use Rattle.ufs_hand_laws.specs.Shown.{nodes_of}
use Rattle.ufs_store_steps.specs.Files.{HasFiles}
use Rattle.ufs_store_steps.specs.Steps.{IsBefore}
use Rattle.ufs_store_steps.proofs.Within.{left_within}
use Rattle.ufs_store_steps.proofs.Cells.{OpensWithin}
use Rattle.ufs_store_steps.proofs.Shows.{its_blocks, content_same, file_content, ShowsFiles, shows_files}

-- ---- before

module _ (g : Geometry) (sectors : ℕ) (old : State) (l : Ledger) (n : Numbers) (paths : Paths) (one : Cells) (is : IsBefore g sectors old l n paths one) where
  pub was_left : (image : Image) → IsImage old image → IsLeft sectors l.superblock l.blocks l.now image
  was_left image left = on_one sectors l image is.none (is.ledger.images image left)

  pub was_within : OpensWithin sectors old
  was_within image other left same = left_within sectors l.superblock l.blocks l.now image other (was_left image left) same

  pub was_shown : (image : Image) → IsImage old image → ShowsFiles sectors image l.now n paths
  was_shown image left = shows_files g sectors l.superblock l.blocks l.now image (was_left image left) is.geometry n paths is.files

  pub was_sound : IsSoundCatalog g l.now.catalog
  was_sound = subst (λ g. IsSoundCatalog g l.now.catalog) is.geometry (was_left (seen old) (seen_is_image old)).sound

  -- what has the same in the data blocks has the same in the files
  pub same_files : (image : Image) (keeps : KeepsData g l.now.log old image) (file : ℕ) → file_content image l.now n file ≡ file_content keeps.before l.now n file
  same_files image keeps file =
      content_same (block_at image) (block_at keeps.before) (shape_of l.now.catalog (n.inode file)) (λ b at. let its = its_blocks g l.now n paths is.files was_sound file b at in keeps.same b its.0 its.1)

-- ---- after

module _ (sectors : ℕ) (l : Ledger) (image : Image) where
  pub committing_left : (t : Committed) → IsLeftBy sectors (committing t (settled l)) image
      → IsLeft sectors l.superblock (settled l).blocks l.now image ⊎ IsLeft sectors l.superblock (settled l).blocks (with_one (geometry_of l.superblock) t l.now) image
  committing_left t (inl left) = inl left
  committing_left t (inr one) =
      let e : ◌≡◌ {A = Standing} one.0 (record { superblock = l.superblock; stand = with_one (geometry_of l.superblock) t l.now }) = (let f = one.1 in cc) in
      inr (subst (λ (x : Standing). IsLeft sectors x.superblock (settled l).blocks x.stand image) e one.2)

  pub committed_left : (t : Committed) → l.maybe ≡ None → IsLeftBy sectors (committed_one t l) image → IsLeft sectors l.superblock (settled l).blocks (with_one (geometry_of l.superblock) t l.now) image
  committed_left t none left = on_one sectors (committed_one t l) image none left

  pub beginning_left : (superblock : Super) (home : ℕ → List ℕ) → IsLeftBy sectors (beginning superblock home l) image
      → IsLeft sectors l.superblock (home_cells home l) l.now image ⊎ IsLeft sectors superblock (home_cells home l) (without_log l.now) image
  beginning_left superblock home (inl left) = inl left
  beginning_left superblock home (inr one) =
      let e : ◌≡◌ {A = Standing} one.0 (record { superblock = superblock; stand = without_log l.now }) = (let f = one.1 in cc) in
      inr (subst (λ (x : Standing). IsLeft sectors x.superblock (home_cells home l) x.stand image) e one.2)

  pub emptied_left : (superblock : Super) (home : ℕ → List ℕ) → IsLeftBy sectors (emptied superblock home l) image → IsLeft sectors superblock (home_cells home l) (without_log l.now) image
  emptied_left superblock home left = on_one sectors (emptied superblock home l) image refl left

-- with nothing in the journal the same files are there
pub without_log_files : (g : Geometry) (s : Stand) (n : Numbers) (paths : Paths) → HasFiles g s n paths → HasFiles g (without_log s) n paths
without_log_files g s n paths files = record { numbered = files.numbered; inodes = files.inodes; unheld = λ inode place block has kind. refl }

-- one image goes on from another as their trees do
pub goes_by : (sectors : ℕ) (before image : Image) (s t : Stand) (n m : Numbers) (paths next : Paths) (Goes : PathNodes → PathNodes → Type 0) (x : ShowsFiles sectors before s n paths) (y : ShowsFiles sectors image t m next)
    → Goes (nodes_of x.tree) (nodes_of y.tree) → (tree : ImageTree) → opens sectors before ≡ Ok tree → (u : ImageTree) × (opens sectors image ≡ Ok u) × Goes (nodes_of tree) (nodes_of u)
goes_by sectors before image s t n m paths next Goes x y goes tree opened =
    let e : x.tree ≡ tree = (let a = x.opened in let b = opened in cc) in
    (y.tree, y.opened, subst (λ (u : ImageTree). Goes (nodes_of u) (nodes_of y.tree)) e goes)
