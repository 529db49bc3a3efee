-- A commit of names, by the trees of what a crash leaves.
use Rattle.std.proofs.Common.{◌≡◌, ◌⊎◌, inl, inr, ℕ, List, [], take, Bool, true, false, Option, Some, None, ap, sym, refl, ◌∙◌, subst}
use Rattle.std.specs.Prelude.{flat_map}
use Rattle.std.specs.Option.{option_map}
use Rattle.std.specs.FinMap as map
use Rattle.ufs_base.specs.Images.{Image}
use Rattle.ufs_layout.specs.Superblock.{geometry_of}
use Rattle.ufs_layout.specs.declared.geometry.Geometry.{Geometry}
use Rattle.ufs_layout.specs.declared.records.Committed.{Committed}
use Rattle.ufs_image.specs.Images.{block_at}
use Rattle.ufs_model.specs.PosixTree.{Paths}
use Rattle.ufs_model.specs.declared.data.Node.{Node}
use Rattle.ufs_model.specs.declared.data.Node.TheVariants.{Dir, File}
use Rattle.ufs_crash_laws.specs.Explained.{IsNodeWith}
use Rattle.ufs_ledger.specs.Ledger.{with_one, Ledger, IsLeft}
use Rattle.ufs_ledger.specs.Changes.{settled}
use Rattle.ufs_ledger.specs.Kept.{Numbers, Shape, shape_of}
use Rattle.ufs_ledger.proofs.Shapes.{content_of}
use Rattle.ufs_hand_laws.specs.Shown.{node_of, nodes_of}
use Rattle.ufs_hand_laws.specs.Commits.{IsKeptFile, IsCommittedFile, AreNamesCommitted}
use Rattle.ufs_store_steps.specs.Files.{IsKeptShape, CommitsPaths}
use Rattle.ufs_store_steps.specs.Steps.{NameCommitsMayGo, NameCommitsGo}
use Rattle.ufs_store_steps.proofs.Cells.{ImageGoes}
use Rattle.ufs_store_steps.proofs.CommitSteps.{commit_may_go, commit_goes}
use Rattle.ufs_store_steps.proofs.Shows.{shown_node, file_content, ShowsFiles, nodes_at, shows_files}
use Rattle.ufs_store_steps.proofs.Stands.{goes_by}

-- ---- trees

module _ (g : Geometry) (sectors : ℕ) (l : Ledger) (n m : Numbers) (paths next : Paths) (fresh : ℕ → Bool) (t : Committed) (same : geometry_of l.superblock ≡ g) (c : CommitsPaths g l.now (with_one g t l.now) n m paths next fresh)
    (image : Image) (left : IsLeft sectors l.superblock (settled l).blocks (with_one g t l.now) image) where
  pub its_files : ShowsFiles sectors image (with_one g t l.now) m next
  its_files = shows_files g sectors l.superblock (settled l).blocks (with_one g t l.now) image left same m next c.after

  module _ (before : Image) (x : ShowsFiles sectors before l.now n paths) (alike : (f : ℕ) → file_content image l.now n f ≡ file_content before l.now n f) where
    -- a file that was named has what it had there
    kept : (file : ℕ) → IsKeptShape l.now (with_one g t l.now) n m paths file → IsKeptFile paths (nodes_of x.tree) file (file_content image (with_one g t l.now) m file)
    kept file k = record {
      path = k.path;
      named = k.named;
      there =
          nodes_at sectors before l.now n paths x k.path ∙ ap (λ o. option_map node_of (shown_node (file_content before l.now n) o)) k.named
          ∙ ap (λ b. option_map node_of (Some (Some b))) (sym (ap (content_of (block_at image)) k.shape ∙ alike file));
    }

    none : (shape : Shape) → shape.size ≡ 0 → content_of (block_at image) shape ≡ []
    none shape e = ap (λ k. take k (flat_map (block_at image) shape.holds)) e

    names_at : (path : List ℕ) (o : Option Node) → map.get next path ≡ o → IsNodeWith (IsCommittedFile fresh paths (nodes_of x.tree)) o (option_map node_of (shown_node (file_content image (with_one g t l.now) m) o))
    names_at path None e = tt
    names_at path (Some Dir) e = tt
    names_at path (Some (File file)) e = by (c.each path file e)
      where
        by : ((fresh file ≡ false) × IsKeptShape l.now (with_one g t l.now) n m paths file) ⊎ ((fresh file ≡ true) × ((shape_of (with_one g t l.now).catalog (m.inode file)).size ≡ 0))
            → IsCommittedFile fresh paths (nodes_of x.tree) file (file_content image (with_one g t l.now) m file)
        by (inl k) = inl (k.0, kept file k.1)
        by (inr k) = inr (k.0, none (shape_of (with_one g t l.now).catalog (m.inode file)) k.1)

    pub names_go : AreNamesCommitted fresh paths next (nodes_of x.tree) (nodes_of its_files.tree)
    names_go path = subst (IsNodeWith (IsCommittedFile fresh paths (nodes_of x.tree)) (map.get next path)) (sym (nodes_at sectors image (with_one g t l.now) m next its_files path)) (names_at path (map.get next path) refl)

-- ---- the steps

module _ (g : Geometry) (sectors : ℕ) (l : Ledger) (n m : Numbers) (paths next : Paths) (fresh : ℕ → Bool) (t : Committed) (same : geometry_of l.superblock ≡ g) (c : CommitsPaths g l.now (with_one g t l.now) n m paths next fresh) where
  goes : (image : Image) → IsLeft sectors l.superblock (settled l).blocks (with_one g t l.now) image → (before : Image) → ShowsFiles sectors before l.now n paths → ((f : ℕ) → file_content image l.now n f ≡ file_content before l.now n f)
      → ImageGoes sectors (AreNamesCommitted fresh paths next) before image
  goes image left before x alike =
      goes_by sectors before image l.now (with_one g t l.now) n m paths next (AreNamesCommitted fresh paths next) x (its_files g sectors l n m paths next fresh t same c image left) (names_go g sectors l n m paths next fresh t same c image left before x alike)

pub name_commits_may_go : (g : Geometry) → NameCommitsMayGo g
name_commits_may_go g sectors old new l n m paths next fresh one other t is are c data' leaves =
    commit_may_go g sectors old new l n paths one other t is are data' (AreNamesCommitted fresh paths next) (goes g sectors l n m paths next fresh t is.geometry c) leaves

pub name_commits_go : (g : Geometry) → NameCommitsGo g
name_commits_go g sectors old new l n m paths next fresh one other t is are c data' ledger =
    commit_goes g sectors old new l n paths one other t is are data' (AreNamesCommitted fresh paths next) (goes g sectors l n m paths next fresh t is.geometry c) ledger
