-- The names of an image are the part of its start.
use Rattle.std.proofs.Common.{◌≡◌, ℕ, List, Option, None, length, get_or, ap, sym, ◌∙◌}
use Rattle.std.specs.Prelude.{Result, Ok, Err, IfOk}
use Rattle.ufs_base.specs.Images.{Image}
use Rattle.ufs_layout.specs.declared.geometry.Geometry.{Geometry}
use Rattle.ufs_layout.specs.declared.superblock.Super.{Super}
use Rattle.ufs_image.specs.Catalog.{Catalog, catalog_at}
use Rattle.ufs_image.specs.Opens.{opens}
use Rattle.ufs_image.specs.Volume.{Volume}
use Rattle.ufs_image.proofs.Opening.{opens_to}
use Rattle.ufs_damage.specs.Findings.{CatalogRead}
use Rattle.ufs_dir_tree.specs.DirTable.{IsReached}
use Rattle.ufs_dir_laws.specs.Tables.{IsTableOf}
use Rattle.ufs_model.specs.PosixTree.{PosixTree}
use Rattle.ufs_model.specs.Start.{IsPathTree}
use Rattle.ufs_model.proofs.ContentLemmas.{start_has_contents, start_is_numbered}
use Rattle.ufs_model.proofs.Facts.Orders.{path_total}
use Rattle.ufs_model.proofs.Facts.Starts.{start_is_tree}
use Rattle.ufs_crash_laws.proofs.Facts.Mapped.{get-mapped}
use Rattle.ufs_ledger.specs.Kept.{path_node_of, paths_of}
use Rattle.ufs_name_tree.specs.NameTable.{NameTable, IsNameTable}
use Rattle.ufs_names.specs.Closed.{AreClosed}
use Rattle.ufs_names.specs.NamesPart.{NamesPart}
use Rattle.ufs_promise_laws.specs.Numbered.{HasImage, IsNumberedAs}
use Rattle.ufs_promise_laws.specs.TreeParts.{IsNamesOf}
use Rattle.ufs_promise_laws.specs.Starts.{image_start}
use Rattle.ufs_bitmap.specs.Blocks.{BlockSet}
use Rattle.ufs_files.specs.Files.{Files, AreFilesOf}
use Rattle.ufs_names.specs.Calls.{HaveInodes}
use Rattle.ufs_names.specs.Space.{AreApart}
use Rattle.ufs_promise_laws.specs.Loaded.{AreRead, IsUntaken}
use Rattle.ufs_promise_laws.proofs.BlocksApart.{are_apart}
use Rattle.ufs_promise_laws.proofs.Filed.{are_files, have_inodes}
use Rattle.ufs_promise_laws.proofs.TreeNamed.{is_name_table, named_once}
use Rattle.ufs_promise_laws.proofs.Started.{image_is_tree, image_part}
use Rattle.ufs_start.specs.Starts.{AreNumbersOf, AreStartNames, IsLoaded, tree_in}

-- three facts of a success together
pub if_all : {X E : Type 0} (r : Result X E) (P Q R S : X → Type 0) → ((x : X) → P x → Q x → R x → S x) → IfOk r P → IfOk r Q → IfOk r R → IfOk r S
if_all (Ok x) P Q R S leads p q r = leads x p q r
if_all (Err e) P Q R S leads p q r = tt

module _ (g : Geometry) (f : CatalogRead) (sectors : ℕ) (disk : Image) (superblock : Super) (image : Image) (loaded : IsLoaded g f sectors disk superblock image) where
  abbrev v : Volume
  v = record { superblock = superblock; geometry = g; image = image }

  abbrev c : Catalog
  c = catalog_at g image

  abbrev start : PosixTree
  start = image_start (tree_in g image)

  opened : opens sectors disk ≡ Ok (tree_in g image)
  opened = opens_to sectors disk v c loaded.standing

  path_tree : IsPathTree (paths_of (tree_in g image))
  path_tree = image_is_tree sectors disk (tree_in g image) opened

  contents : HasImage start (tree_in g image)
  contents path = start_has_contents (paths_of (tree_in g image)) path ∙ get-mapped path_total path_node_of (tree_in g image) path

  numbered : (n : NameTable) (files : List (Option ℕ)) → n.files ≡ files → length n.files ≡ length n.dirs.dirs → AreNumbersOf g image files → IsNumberedAs c n start.paths
  numbered n files are counted told = record {
    counted = counted;
    each = λ i file at. ap (λ (l : List (Option ℕ)). get_or l i None) are ∙ told.each i file at;
    only = λ i file e. told.only i file (ap (λ (l : List (Option ℕ)). get_or l i None) (sym are) ∙ e);
  }

  pub name_table : (n : NameTable) (files : List (Option ℕ)) → n.files ≡ files → length n.files ≡ length n.dirs.dirs → AreNumbersOf g image files → IsTableOf g c n.dirs → IsReached n.dirs → IsNameTable n
  name_table n files are counted told table reached =
      is_name_table sectors disk v c n start loaded.standing (start_is_tree (paths_of (tree_in g image)) path_tree) contents (named_once start (start_is_numbered (paths_of (tree_in g image)))) table
      (numbered n files are counted told) reached

  pub start_names : (n : NamesPart) (files : List (Option ℕ)) → n.tree.files ≡ files → length n.tree.files ≡ length n.tree.dirs.dirs → AreNumbersOf g image files → IsTableOf g c n.tree.dirs
      → AreClosed n.tree n.held → n.next ≡ start.next → AreStartNames sectors disk g image n
  start_names n files are counted told table closed next =
      let names : IsNamesOf g c start n = record { dirs = table; numbers = numbered n.tree files are counted told; closed = closed; next = next } in
      record { opened = opened; names = names; part = image_part sectors disk (tree_in g image) v c n opened loaded.standing names }

  -- ---- files that were read

  module _ (n : NamesPart) (files : Files) (names : AreStartNames sectors disk g image n) (read : AreRead image c n files) where
    pub files_are : AreFilesOf files start
    files_are = are_files sectors disk v c start n files loaded.standing contents names.names read

    pub inodes_are : HaveInodes n.held files
    inodes_are = have_inodes sectors disk v c start n files loaded.standing contents names.names read

    pub files_apart : (pool : BlockSet) → IsUntaken g c pool → AreApart n.tree.dirs files pool
    files_apart pool free =
        are_apart sectors disk v c start n files pool loaded.standing (start_is_tree (paths_of (tree_in g image)) path_tree) contents (named_once start (start_is_numbered (paths_of (tree_in g image)))) names.names read free
