-- A commit of a file, by the trees of what a crash leaves.
use Rattle.std.proofs.Common.{◌≡◌, ◌≢◌, ℕ, List, [], false, Option, Some, None, ap, sym, refl, ◌∙◌, subst, arith}
use Rattle.std.specs.Option.{option_map}
use Rattle.std.specs.FinMap as map
use Rattle.ufs_base.specs.Images.{Image}
use Rattle.ufs_disk.specs.Disk.{possible}
use Rattle.ufs_layout.specs.Superblock.{geometry_of}
use Rattle.ufs_layout.specs.declared.geometry.Geometry.{Geometry}
use Rattle.ufs_layout.specs.declared.records.Committed.{Committed}
use Rattle.ufs_image.specs.Images.{block_at}
use Rattle.ufs_image.specs.Catalog.{HasBlock, IsInode}
use Rattle.ufs_image.specs.Sound.{IsSoundCatalog}
use Rattle.ufs_model.specs.PosixTree.{Paths}
use Rattle.ufs_model.specs.declared.data.Node.{Node}
use Rattle.ufs_model.specs.declared.data.Node.TheVariants.{Dir, File}
use Rattle.ufs_crash_laws.proofs.Facts.Shows.{shown_exactly}
use Rattle.ufs_ledger.specs.Ledger.{IsDataBlock, IsMixOf, is_held, Stand, with_one, Ledger, IsLeft}
use Rattle.ufs_ledger.specs.Changes.{settled}
use Rattle.ufs_ledger.specs.Kept.{Numbers, Shape, shape_of, MayHave, AlwaysShows}
use Rattle.ufs_ledger.proofs.FileCommits.{catalog_is, shape_else, shape_here, stands_on}
use Rattle.ufs_ledger.proofs.Shapes.{content_of, inode_shown}
use Rattle.ufs_hand_laws.specs.Shown.{node_of, nodes_of}
use Rattle.ufs_hand_laws.specs.Commits.{IsFileCommitted}
use Rattle.ufs_store_steps.specs.Files.{CommitsBytes}
use Rattle.ufs_store_steps.specs.Steps.{FilesCommitBytes, FileCommitsMayGo, FileCommitsGo}
use Rattle.ufs_store_steps.proofs.Cells.{ImageGoes}
use Rattle.ufs_store_steps.proofs.CommitSteps.{commit_may_go, commit_goes}
use Rattle.ufs_store_steps.proofs.Shows.{shown_node, file_content, ShowsFiles, nodes_at, shows_files}
use Rattle.ufs_store_steps.proofs.Stands.{goes_by}

-- ---- what is committed, by the history

pub files_commit_bytes : (g : Geometry) → FilesCommitBytes g
files_commit_bytes g blocks s start history names files n file inode number size keep extents sound covers kept go =
    let on = stands_on g blocks s start history names files n file inode number size keep extents sound covers kept go in
    let cat = catalog_is g blocks s start history names files n file inode number size keep extents sound covers kept go in
    let here = ap (λ d. shape_of d (n.inode file)) cat ∙ shape_here g blocks s start history names files n file inode number size keep extents sound covers kept go in
    record {
      after = record { numbered = on.paths; inodes = on.inodes; unheld = on.unheld };
      others = λ other ne. ap (λ d. shape_of d (n.inode other)) cat ∙ shape_else g blocks s start history names files n file inode number size keep extents sound covers kept go (n.inode other) (λ at. ne (go.alone other at));
      sized = ap (λ (x : Shape). x.size) here ∙ go.sized;
      now = λ place byte less may. go.now place byte (let e = go.sized in omega (arith, less, e)) (subst (λ x. MayHave blocks x place byte) here may);
    }

-- ---- trees

module _ (g : Geometry) (sectors : ℕ) (l : Ledger) (n : Numbers) (paths : Paths) (t : Committed) (file : ℕ) (bytes : List ℕ) (same : geometry_of l.superblock ≡ g) (c : CommitsBytes g (settled l).blocks l.now (with_one g t l.now) n paths file bytes) where
  abbrev after : Stand
  after = with_one g t l.now

  module _ (image : Image) (left : IsLeft sectors l.superblock (settled l).blocks (with_one g t l.now) image) where
    sound : IsSoundCatalog g (with_one g t l.now).catalog
    sound = subst (λ g'. IsSoundCatalog g' (with_one g t l.now).catalog) same left.sound

    picks : (block : ℕ) → IsDataBlock g block → is_held (with_one g t l.now).log block ≡ false → IsMixOf (possible ((settled l).blocks block)) (block_at image block)
    picks block data' free = left.contents block (subst (λ g. IsDataBlock g block) (sym same) data') free

    its : (inode : ℕ) → n.inode file ≡ Some inode → IsInode g inode × ((place block : ℕ) → HasBlock g (with_one g t l.now).catalog inode place block → is_held (with_one g t l.now).log block ≡ false)
    its inode e = let it = c.after.inodes file inode e in (it.0, λ place block has. c.after.unheld inode place block has it.1)

    always : AlwaysShows (settled l).blocks (shape_of (with_one g t l.now).catalog (n.inode file)) bytes [] 0
    always = record {
      made = omega arith;
      size = c.sized;
      each = λ place byte less may. record { upto = 0; later = omega arith; made = omega arith; is = c.now place byte (let e = c.sized in omega (arith, less, e)) may };
    }

    own : file_content image (with_one g t l.now) n file ≡ bytes
    own = shown_exactly bytes [] (file_content image (with_one g t l.now) n file) (inode_shown g (settled l).blocks (with_one g t l.now) (block_at image) (n.inode file) bytes [] 0 sound its picks always)

    pub its_files : ShowsFiles sectors image (with_one g t l.now) n paths
    its_files = shows_files g sectors l.superblock (settled l).blocks (with_one g t l.now) image left same n paths c.after

    module _ (before : Image) (x : ShowsFiles sectors before l.now n paths) (alike : (f : ℕ) → file_content image l.now n f ≡ file_content before l.now n f) where
      else : (f : ℕ) → f ≢ file → file_content image (with_one g t l.now) n f ≡ file_content before l.now n f
      else f ne = ap (content_of (block_at image)) (c.others f ne) ∙ alike f

      here : (path : List ℕ) → map.get paths path ≡ Some (File file) → map.get (nodes_of its_files.tree) path ≡ option_map node_of (Some (Some bytes))
      here path e =
          nodes_at sectors image (with_one g t l.now) n paths its_files path ∙ ap (λ o. option_map node_of (shown_node (file_content image (with_one g t l.now) n) o)) e ∙ ap (λ b. option_map node_of (Some (Some b))) own

      elsewhere : (path : List ℕ) → (map.get paths path ≡ Some (File file) → ⊥) → map.get (nodes_of its_files.tree) path ≡ map.get (nodes_of x.tree) path
      elsewhere path not =
          nodes_at sectors image (with_one g t l.now) n paths its_files path ∙ ap (option_map node_of) (by (map.get paths path) not) ∙ sym (nodes_at sectors before l.now n paths x path)
        where
          by : (o : Option Node) → (o ≡ Some (File file) → ⊥) → shown_node (file_content image (with_one g t l.now) n) o ≡ shown_node (file_content before l.now n) o
          by None not = refl
          by (Some Dir) not = refl
          by (Some (File f)) not = ap (λ b. Some (Some b)) (else f (λ e. not (ap (λ k. Some (File k)) e)))

      pub file_goes : IsFileCommitted paths file bytes (nodes_of x.tree) (nodes_of its_files.tree)
      file_goes = record { here = here; elsewhere = elsewhere }

-- ---- the steps

module _ (g : Geometry) (sectors : ℕ) (l : Ledger) (n : Numbers) (paths : Paths) (t : Committed) (file : ℕ) (bytes : List ℕ) (same : geometry_of l.superblock ≡ g) (c : CommitsBytes g (settled l).blocks l.now (with_one g t l.now) n paths file bytes) where
  goes : (image : Image) → IsLeft sectors l.superblock (settled l).blocks (with_one g t l.now) image → (before : Image) → ShowsFiles sectors before l.now n paths → ((f : ℕ) → file_content image l.now n f ≡ file_content before l.now n f)
      → ImageGoes sectors (IsFileCommitted paths file bytes) before image
  goes image left before x alike =
      goes_by sectors before image l.now (with_one g t l.now) n n paths paths (IsFileCommitted paths file bytes) x (its_files g sectors l n paths t file bytes same c image left) (file_goes g sectors l n paths t file bytes same c image left before x alike)

pub file_commits_may_go : (g : Geometry) → FileCommitsMayGo g
file_commits_may_go g sectors old new l n paths one other t file bytes is are c data' leaves =
    commit_may_go g sectors old new l n paths one other t is are data' (IsFileCommitted paths file bytes) (goes g sectors l n paths t file bytes is.geometry c) leaves

pub file_commits_go : (g : Geometry) → FileCommitsGo g
file_commits_go g sectors old new l n paths one other t file bytes is are c data' ledger =
    commit_goes g sectors old new l n paths one other t is are data' (IsFileCommitted paths file bytes) (goes g sectors l n paths t file bytes is.geometry c) ledger
