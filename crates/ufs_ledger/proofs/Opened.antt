-- What a crash leaves opens to a tree that the history explains.
use Rattle.std.proofs.Common.{◌≡◌, ℕ, List, take, Bool, true, false, Option, Some, None, ap, sym, refl, ◌∙◌, subst}
use Rattle.std.specs.Prelude.{◌==◌, if◌then◌else◌, Ok}
use Rattle.std.specs.Option.{option_map}
use Rattle.std.specs.FinMap as map
use Rattle.std.specs.FinMap.{from_entries}
use Rattle.ufs_disk.specs.Disk.{Cell, possible}
use Rattle.ufs_layout.specs.Superblock.{geometry_of}
use Rattle.ufs_base.specs.Images.{Image}
use Rattle.ufs_image.specs.Images.{block_at}
use Rattle.ufs_image.specs.Journal.{committed}
use Rattle.ufs_image.specs.Fold.{folded}
use Rattle.ufs_image.specs.Volume.{Volume, superblock_of}
use Rattle.ufs_image.specs.Opens.{ImageTree, NodeBytes, walked, opens, path_cmp, file_bytes}
use Rattle.ufs_layout.specs.declared.superblock.Super.{Super}
use Rattle.ufs_model.specs.PosixTree.{PosixTree, Paths}
use Rattle.ufs_model.specs.FileBytes.{bytes_of}
use Rattle.ufs_model.proofs.Facts.Orders.{path_total}
use Rattle.ufs_model.specs.declared.data.Entry.{Entry}
use Rattle.ufs_model.specs.declared.data.Node.{Node}
use Rattle.ufs_model.specs.declared.data.Node.TheVariants.{Dir, File}
use Rattle.ufs_model.specs.declared.data.PathNode.{PathNode}
use Rattle.ufs_crash_laws.specs.Changes.{changes_of, names_after}
use Rattle.ufs_crash_laws.specs.Explained.{IsNodeWith, IsTreeWith, IsCovering}
use Rattle.ufs_crash_laws.proofs.Facts.Mapped.{get-mapped}
use Rattle.ufs_crash_laws.specs.Stored.{IsStored}
use Rattle.ufs_crash_laws.proofs.Facts.Explains.{explained_by}
use Rattle.ufs_crash_laws.proofs.Facts.Stores.{stored_opens, stored_explained}
use Rattle.ufs_image.specs.Catalog.{Catalog, IsInode, HasBlock, IsCatalogOf}
use Rattle.ufs_image.specs.Sound.{IsSoundCatalog}
use Rattle.ufs_image.specs.Walks.{inode_of, path_text, ArePieces, node_of}
use Rattle.ufs_image.specs.CatalogLaws.{StandsAtPaths, StandsNowhereElse, SpellsDirs}
use Rattle.ufs_image.specs.Standing.{IsVolumeOf}
use Rattle.ufs_image.proofs.Journals.{taken}
use Rattle.ufs_image.proofs.Opening.{opens_to}
use Rattle.ufs_ledger.specs.Ledger.{IsDataBlock, IsMixOf, is_held, Stand, IsLeft}
use Rattle.ufs_ledger.specs.Kept.{Numbers, numbered, IsNumberedBy, shape_of, path_node_of, paths_of, IsStandStored, IsStandKept, OpensExplained, OpensExplainedFrom}
use Rattle.ufs_ledger.proofs.Held.{unheld_block}
use Rattle.ufs_ledger.proofs.Shapes.{content_of, inode_shown}

module _ (v : Volume) (c : Catalog) (n : Numbers) (paths : Paths) (is : IsNumberedBy c n paths) (catalog : IsCatalogOf v.geometry v.image c) (sound : IsSoundCatalog v.geometry c) (at : StandsAtPaths v) (nowhere : StandsNowhereElse v) where
  abbrev tree : ImageTree
  tree = from_entries (walked v)

  abbrev Has : ℕ → List ℕ → Type 0
  Has file bytes = bytes ≡ content_of (block_at v.image) (shape_of c (n.inode file))

  -- the same at one inode
  same_node : (inode : ℕ) → (((c.forms inode).kind == 2) ≡ false → n.inode (n.file inode) ≡ Some inode) → IsNodeWith Has (Some (numbered c n inode)) (Some (path_node_of (node_of v.image c inode)))
  same_node inode back = by ((c.forms inode).kind == 2) refl
    where
      by : (b : Bool) → ((c.forms inode).kind == 2) ≡ b → IsNodeWith Has (Some (if b then Dir else File (n.file inode))) (Some (path_node_of (if b then None else Some (file_bytes v.image (c.forms inode)))))
      by true e = tt
      by false e = sym (ap (λ o. content_of (block_at v.image) (shape_of c o)) (back e))

  same_at : (names : List (List ℕ)) → ArePieces names → (o : Option ℕ) → inode_of c names ≡ o → IsNodeWith Has (option_map (numbered c n) o) (option_map path_node_of (option_map (node_of v.image c) o))
  same_at names pieces None e = tt
  same_at names pieces (Some inode) e = same_node inode (is.back names inode pieces e)

  at_names : (names : List (List ℕ)) → ArePieces names → IsNodeWith Has (map.get paths (path_text names)) (option_map path_node_of (map.get {R = path_cmp} tree (path_text names)))
  at_names names pieces =
      subst (λ (x : Option Node × Option PathNode). IsNodeWith Has x.0 x.1)
      (λ i. (sym (is.there names pieces) i, option_map path_node_of (sym (at c catalog sound names pieces) i))) (same_at names pieces (inode_of c names) refl)

  at_path : (path : List ℕ) → IsNodeWith Has (map.get paths path) (option_map path_node_of (map.get {R = path_cmp} tree path))
  at_path path = by (map.get paths path) refl (map.get {R = path_cmp} tree path) refl
    where
      here : (names : List (List ℕ)) → ArePieces names → path ≡ path_text names → IsNodeWith Has (map.get paths path) (option_map path_node_of (map.get {R = path_cmp} tree path))
      here names pieces text = subst (λ p. IsNodeWith Has (map.get paths p) (option_map path_node_of (map.get {R = path_cmp} tree p))) (sym text) (at_names names pieces)

      by : (o : Option Node) → map.get paths path ≡ o → (p : Option NodeBytes) → map.get {R = path_cmp} tree path ≡ p → IsNodeWith Has (map.get paths path) (option_map path_node_of (map.get {R = path_cmp} tree path))
      by None e None f = subst (λ (x : Option Node × Option NodeBytes). IsNodeWith Has x.0 (option_map path_node_of x.1)) (λ i. (sym e i, sym f i)) tt
      by (Some node) e p f = let from = is.only path node e in here from.0 from.1 from.2
      by None e (Some node) f = let from = nowhere c catalog sound path node f in here from.names from.pieces from.text

  pub has_paths : IsTreeWith Has paths (paths_of tree)
  has_paths path = subst (IsNodeWith Has (map.get paths path)) (sym (get-mapped path_total path_node_of tree path)) (at_path path)

-- ---- the pick of an image

module _ (sectors : ℕ) (superblock : Super) (blocks : ℕ → Cell) (s : Stand) (image : Image) (left : IsLeft sectors superblock blocks s image) where
  pub same_geometry : left.as_volume.geometry ≡ geometry_of superblock
  same_geometry = let is = taken sectors image left.as_volume left.taken in ap (λ (v : Volume). v.geometry) is.same ∙ ap geometry_of (sym (ap (λ (v : Volume). v.superblock) is.same) ∙ left.superblock_is)

  pub same_image : left.as_volume.image ≡ folded (geometry_of superblock) s.log image
  same_image =
      let is = taken sectors image left.as_volume left.taken in
      let superblocks : superblock_of image ≡ superblock = sym (ap (λ (v : Volume). v.superblock) is.same) ∙ left.superblock_is in
      ap (λ (v : Volume). v.image) is.same ∙ ap (λ (h : Super). folded (geometry_of h) (committed (geometry_of h) h.epoch image) image) superblocks ∙ ap (λ log. folded (geometry_of superblock) log image) left.logged

  pub picks : (block : ℕ) → IsDataBlock (geometry_of superblock) block → is_held s.log block ≡ false → IsMixOf (possible (blocks block)) (block_at left.as_volume.image block)
  picks block data' free = subst (IsMixOf _) (sym (ap (λ (i : Image). block_at i block) same_image ∙ unheld_block (geometry_of superblock) block data'.from s.log image free)) (left.contents block data' free)

  -- what is left is an image with its catalog
  pub is_volume : SpellsDirs (geometry_of superblock) → IsVolumeOf sectors image left.as_volume s.catalog
  is_volume spells_dirs = record {
    taken = left.taken;
    catalog = subst (λ g. IsCatalogOf g left.as_volume.image s.catalog) (sym same_geometry) (spells_dirs s.dirs left.as_volume.image s.catalog left.spells left.covers);
    sound = subst (λ g. IsSoundCatalog g s.catalog) (sym same_geometry) left.sound;
  }

  module _ (start : PosixTree) (history : List Entry) (names : ℕ) (files : ℕ → ℕ) (n : Numbers) (stored : IsStandStored (geometry_of superblock) blocks s start history names files n) where
    -- what the image has of each file
    abbrev content : ℕ → List ℕ
    content file = content_of (block_at left.as_volume.image) (shape_of s.catalog (n.inode file))

    its : (file inode : ℕ) → n.inode file ≡ Some inode → IsInode (geometry_of superblock) inode × ((place block : ℕ) → HasBlock (geometry_of superblock) s.catalog inode place block → is_held s.log block ≡ false)
    its file inode at = let is = stored.inodes file inode at in (is.0, λ place block has. stored.unheld inode place block has is.1)

    stored_there : IsStored start history names files content
    stored_there = record {
      made = stored.made;
      each = λ count file from to named.
          inode_shown (geometry_of superblock) blocks s (block_at left.as_volume.image) (n.inode file) (bytes_of start.bytes file) (changes_of file start history) (files file) left.sound (its file) picks (stored.shown count file from to named);
    }

    opens_as_stored : SpellsDirs (geometry_of superblock) → StandsAtPaths left.as_volume → StandsNowhereElse left.as_volume
        → (opens sectors image ≡ Ok (from_entries (walked left.as_volume))) × IsTreeWith (λ file bytes. bytes ≡ content file) (names_after start history names).paths (paths_of (from_entries (walked left.as_volume)))
    opens_as_stored spells_dirs at nowhere =
        let is = is_volume spells_dirs in
        (opens_to sectors image left.as_volume s.catalog is, has_paths left.as_volume s.catalog n (names_after start history names).paths stored.paths is.catalog is.sound at nowhere)

  pub opens_explained : SpellsDirs (geometry_of superblock) → StandsAtPaths left.as_volume → StandsNowhereElse left.as_volume
      → (start : PosixTree) (history : List Entry) (names : ℕ) (files : ℕ → ℕ) (n : Numbers) → IsStandKept (geometry_of superblock) blocks s start history names files n → OpensExplained sectors start history image
  opens_explained spells_dirs at nowhere start history names files n kept =
      let opened = opens_as_stored start history names files n kept.stored spells_dirs at nowhere in
      record {
        tree = from_entries (walked left.as_volume);
        opened = opened.0;
        explained = explained_by start history names files (paths_of (from_entries (walked left.as_volume))) kept.covers
            (stored_opens start history names files (content start history names files n kept.stored) (paths_of (from_entries (walked left.as_volume))) (stored_there start history names files n kept.stored) opened.1);
      }

  pub opens_explained_from : SpellsDirs (geometry_of superblock) → StandsAtPaths left.as_volume → StandsNowhereElse left.as_volume
      → (start : PosixTree) (history : List Entry) (from to names : ℕ) (files : ℕ → ℕ) (n : Numbers) → IsStandStored (geometry_of superblock) blocks s start (take from history) names files n → IsCovering start (take to history) names files
      → OpensExplainedFrom sectors start history from to image
  opens_explained_from spells_dirs at nowhere start history from to names files n stored covers =
      let opened = opens_as_stored start (take from history) names files n stored spells_dirs at nowhere in
      record {
        tree = from_entries (walked left.as_volume);
        opened = opened.0;
        explained = stored_explained start history from to names files (content start (take from history) names files n stored) (paths_of (from_entries (walked left.as_volume)))
            (stored_there start (take from history) names files n stored) covers opened.1;
      }
