-- What an image shows that the ledger has: at each path what stands there, with what stands in the file's blocks.
use Rattle.std.proofs.Common.{◌≡◌, ℕ, ◌≤◌, List, take, Option, Some, None, ap, sym, refl, ◌∙◌, subst}
use Rattle.std.specs.Prelude.{Ok, false}
use Rattle.std.specs.Option.{option_map}
use Rattle.std.specs.FinMap as map
use Rattle.std.specs.FinMap.{same_map, from_entries, nat_cmp-IsAntisymmetric, slice_cmp-IsAntisymmetric}
use Rattle.std.specs.Cmp.Lexicographic.{nat_list_cmp_total}
use Rattle.ufs_base.specs.Images.{Image}
use Rattle.ufs_disk.specs.Disk.{Cell, State}
use Rattle.ufs_layout.specs.Superblock.{geometry_of}
use Rattle.ufs_layout.specs.declared.geometry.Geometry.{Geometry}
use Rattle.ufs_layout.specs.declared.superblock.Super.{Super}
use Rattle.ufs_image.specs.Images.{block_at}
use Rattle.ufs_image.specs.Nodes.{blocks_of}
use Rattle.ufs_image.specs.Opens.{NodeBytes, ImageTree, path_cmp, walked, opens}
use Rattle.ufs_image.specs.CatalogLaws.{StandsAtPaths, StandsNowhereElse}
use Rattle.ufs_image.specs.Sound.{IsSoundCatalog}
use Rattle.ufs_image.specs.Standing.{IsVolumeOf}
use Rattle.ufs_image.specs.Volume.{Volume}
use Rattle.ufs_image.proofs.Changed.{spells_catalog}
use Rattle.ufs_image.proofs.Depth.{has_root}
use Rattle.ufs_image.proofs.Holders.{block_in_data}
use Rattle.ufs_image.proofs.Listed.{place_of_in}
use Rattle.ufs_image.proofs.Lists.{IsIn, flat_map-same}
use Rattle.ufs_image.proofs.Opening.{opens_to, has_geometry}
use Rattle.ufs_image.proofs.Paths.{stands, standing}
use Rattle.ufs_model.specs.PosixTree.{Paths}
use Rattle.ufs_model.proofs.Facts.Orders.{path_total}
use Rattle.ufs_model.specs.declared.data.Node.{Node}
use Rattle.ufs_model.specs.declared.data.Node.TheVariants.{Dir, File}
use Rattle.ufs_crash_laws.specs.Explained.{IsNodeWith, IsTreeWith}
use Rattle.ufs_crash_laws.proofs.Facts.Mapped.{get-mapped}
use Rattle.ufs_ledger.specs.Ledger.{IsDataBlock, is_held, Stand, IsLeft}
use Rattle.ufs_ledger.specs.Data.{KeepsData}
use Rattle.ufs_ledger.specs.Kept.{Numbers, Shape, shape_of, path_node_of, paths_of}
use Rattle.ufs_ledger.proofs.Held.{unheld_block}
use Rattle.ufs_ledger.proofs.Opened.{has_paths, same_image, is_volume}
use Rattle.ufs_ledger.proofs.Shapes.{Pick, content_of}
use Rattle.ufs_hand_laws.specs.Shown.{node_of, nodes_of}
use Rattle.ufs_store_steps.specs.Files.{HasFiles}

-- what stands there, where a file's bytes are these
abbrev pub shown_node : (ℕ → List ℕ) → Option Node → Option NodeBytes
shown_node bytes None = None
shown_node bytes (Some Dir) = Some None
shown_node bytes (Some (File file)) = Some (Some (bytes file))

is_shown : (bytes : ℕ → List ℕ) (o : Option Node) (p : Option NodeBytes) → IsNodeWith (λ file b. b ≡ bytes file) o (option_map path_node_of p) → p ≡ shown_node bytes o
is_shown bytes None None h = refl
is_shown bytes None (Some None) h = absurd h
is_shown bytes None (Some (Some b)) h = absurd h
is_shown bytes (Some Dir) None h = absurd h
is_shown bytes (Some Dir) (Some None) h = refl
is_shown bytes (Some Dir) (Some (Some b)) h = absurd h
is_shown bytes (Some (File file)) None h = absurd h
is_shown bytes (Some (File file)) (Some None) h = absurd h
is_shown bytes (Some (File file)) (Some (Some b)) h = ap (λ x. Some (Some x)) h

-- ---- the blocks of files

pub content_same : (one other : Pick) (shape : Shape) → ((b : ℕ) → IsIn b shape.holds → one b ≡ other b) → content_of one shape ≡ content_of other shape
content_same one other shape same = ap (take shape.size) (flat_map-same one other shape.holds same)

pub its_blocks : (g : Geometry) (s : Stand) (n : Numbers) (paths : Paths) → HasFiles g s n paths → IsSoundCatalog g s.catalog → (file block : ℕ) → IsIn block (shape_of s.catalog (n.inode file)).holds
    → IsDataBlock g block × (is_held s.log block ≡ false)
its_blocks g s n paths files sound file block is = by (n.inode file) refl is
  where
    by : (o : Option ℕ) → n.inode file ≡ o → IsIn block (shape_of s.catalog o).holds → IsDataBlock g block × (is_held s.log block ≡ false)
    by None e is = absurd is
    by (Some inode) e is =
        let it = files.inodes file inode e in
        let at = place_of_in block (blocks_of (s.catalog.forms inode)) is in
        let within = block_in_data g (s.catalog.forms inode).extents block (sound.in_data inode it.0) is in
        (record { from = within.0; under = within.1 }, files.unheld inode at.0 block (record { in_range = it.0; there = at.1 }) it.1)

-- ---- what an image shows

abbrev pub file_content : Image → Stand → Numbers → ℕ → List ℕ
file_content image s n file = content_of (block_at image) (shape_of s.catalog (n.inode file))

pub record ShowsFiles (sectors : ℕ) (image : Image) (s : Stand) (n : Numbers) (paths : Paths) : Type 0 where
  pub tree : ImageTree
  pub opened : opens sectors image ≡ Ok tree
  pub at : (path : List ℕ) → map.get {R = path_cmp} tree path ≡ shown_node (file_content image s n) (map.get paths path)

-- the same of the tree of paths
pub nodes_at : (sectors : ℕ) (image : Image) (s : Stand) (n : Numbers) (paths : Paths) (x : ShowsFiles sectors image s n paths) (path : List ℕ)
    → map.get (nodes_of x.tree) path ≡ option_map node_of (shown_node (file_content image s n) (map.get paths path))
nodes_at sectors image s n paths x path = get-mapped path_total node_of x.tree path ∙ ap (option_map node_of) (x.at path)

module _ (g : Geometry) (sectors : ℕ) (superblock : Super) (blocks : ℕ → Cell) (s : Stand) (image : Image) (left : IsLeft sectors superblock blocks s image) (same : geometry_of superblock ≡ g) (n : Numbers) (paths : Paths) (files : HasFiles g s n paths) where
  v : Volume
  v = left.as_volume

  pub its_volume : IsVolumeOf sectors image left.as_volume s.catalog
  its_volume = is_volume sectors superblock blocks s image left (λ these i c is dirs. spells_catalog (geometry_of superblock) these i c is dirs)

  root : 1 ≤ left.as_volume.geometry.inodes
  root = has_root left.as_volume.geometry (has_geometry sectors image left.as_volume left.taken).0

  at_paths : StandsAtPaths left.as_volume
  at_paths c catalog sound names pieces = stands left.as_volume.geometry left.as_volume.image c catalog sound root names pieces

  nowhere : StandsNowhereElse left.as_volume
  nowhere c catalog sound path node there =
      let from = standing left.as_volume.geometry left.as_volume.image c catalog sound root path node there in
      record { names = from.names; inode = from.at; text = from.text; pieces = from.pieces; met = from.met; same = from.node }

  sound : IsSoundCatalog g s.catalog
  sound = subst (λ g. IsSoundCatalog g s.catalog) same left.sound

  folded_block : (block : ℕ) → IsDataBlock g block → is_held s.log block ≡ false → block_at left.as_volume.image block ≡ block_at image block
  folded_block block data' free = ap (λ (i : Image). block_at i block) (same_image sectors superblock blocks s image left) ∙ unheld_block (geometry_of superblock) block (subst (λ g. IsDataBlock g block) (sym same) data').from s.log image free

  folded_content : (file : ℕ) → content_of (block_at left.as_volume.image) (shape_of s.catalog (n.inode file)) ≡ file_content image s n file
  folded_content file = content_same (block_at left.as_volume.image) (block_at image) (shape_of s.catalog (n.inode file)) (λ b is. let its = its_blocks g s n paths files sound file b is in folded_block b its.0 its.1)

  at_tree : IsTreeWith (λ file bytes. bytes ≡ content_of (block_at left.as_volume.image) (shape_of s.catalog (n.inode file))) paths (paths_of (from_entries (walked left.as_volume)))
  at_tree = has_paths left.as_volume s.catalog n paths files.numbered its_volume.catalog its_volume.sound at_paths nowhere

  pub shows_files : ShowsFiles sectors image s n paths
  shows_files = record {
    tree = from_entries (walked left.as_volume);
    opened = opens_to sectors image left.as_volume s.catalog its_volume;
    at = λ path.
        let p = map.get {R = path_cmp} (from_entries (walked left.as_volume)) path in
        let o = map.get paths path in
        is_shown (λ file. content_of (block_at left.as_volume.image) (shape_of s.catalog (n.inode file))) o p
        (subst (IsNodeWith (λ file bytes. bytes ≡ content_of (block_at left.as_volume.image) (shape_of s.catalog (n.inode file))) o) (get-mapped path_total path_node_of (from_entries (walked left.as_volume)) path) (at_tree path))
        ∙ ap (λ (f : ℕ → List ℕ). shown_node f o) (λ i file. folded_content file i);
  }

  -- another image that has the same in the data blocks has the same in its files
  pub data_content : (state : State) (other : Image) (keeps : KeepsData g s.log state other) → (file : ℕ) → file_content other s n file ≡ file_content keeps.before s n file
  data_content state other keeps file = content_same (block_at other) (block_at keeps.before) (shape_of s.catalog (n.inode file)) (λ b is. let its = its_blocks g s n paths files sound file b is in keeps.same b its.0 its.1)

-- Two images that show the same in all files have one tree.
pub one_tree_of : (sectors : ℕ) (image other : Image) (s t : Stand) (n m : Numbers) (paths : Paths) (x : ShowsFiles sectors image s n paths) (y : ShowsFiles sectors other t m paths)
    → ((file : ℕ) → file_content image s n file ≡ file_content other t m file) → opens sectors image ≡ opens sectors other
one_tree_of sectors image other s t n m paths x y same =
    x.opened
    ∙ ap Ok (same_map nat_list_cmp_total (slice_cmp-IsAntisymmetric nat_cmp-IsAntisymmetric) x.tree y.tree (λ path. x.at path ∙ ap (λ (f : ℕ → List ℕ). shown_node f (map.get paths path)) (λ i file. same file i) ∙ sym (y.at path)))
    ∙ sym y.opened
