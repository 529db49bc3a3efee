-- Files without a number: no walk meets them.
use Rattle.std.proofs.Common.{◌≡◌, ℕ, ◌-◌, ◌≤◌, List, Bool, true, false, length, Option, Some, None, get_or, refl, ap, sym, ◌∙◌, arith}
use Rattle.std.specs.Prelude.{◌&&◌, ◌==◌, IsSome, is_none, if◌then◌else◌}
use Rattle.std.specs.Option.{option_map}
use Rattle.std.specs.FinMap as fin
use Rattle.std.proofs.lemmas.Bool.{and_parts}
use Rattle.std.proofs.lemmas.Bool.Decides.{nat_tests}
use Rattle.std.proofs.lemmas.List.FromFn.{length-map-range_with_len}
use Rattle.ufs_base.specs.Images.{Image}
use Rattle.ufs_damage.specs.Findings.{AreFindingsOf, CatalogRead}
use Rattle.ufs_image.specs.Catalog.{Catalog, IsInode, IsCatalogOf, catalog_at}
use Rattle.ufs_image.specs.Images.{form_at, inode_at}
use Rattle.ufs_image.specs.Opens.{ImageTree, file_bytes}
use Rattle.ufs_image.specs.Sound.{IsSoundCatalog}
use Rattle.ufs_image.specs.Walks.{inode_of, node_of, path_text}
use Rattle.ufs_image.proofs.Depth.{has_root, root_in_range}
use Rattle.ufs_image.proofs.Found.{reached}
use Rattle.ufs_image.proofs.Paths.{stands}
use Rattle.ufs_layout.specs.Areas.{IsGeometry}
use Rattle.ufs_layout.specs.declared.geometry.Geometry.{Geometry}
use Rattle.ufs_ledger.specs.Kept.{path_node_of, paths_of}
use Rattle.ufs_model.specs.PosixTree.{Files, PosixTree}
use Rattle.ufs_model.specs.Start.{content_of}
use Rattle.ufs_model.specs.declared.data.Node.{Node}
use Rattle.ufs_model.specs.declared.data.Node.TheVariants.{Dir, File}
use Rattle.ufs_model.specs.declared.data.PathNode.TheVariants as path_node
use Rattle.ufs_model.proofs.ContentLemmas.{start_has_contents}
use Rattle.ufs_model.proofs.Facts.Orders.{path_total}
use Rattle.ufs_crash_laws.proofs.Facts.Mapped.{get-mapped}
use Rattle.ufs_promise_laws.specs.Starts.{image_start}
use Rattle.ufs_start.specs.Numbers.{is_file_form, is_unnamed_in}
use Rattle.ufs_start.specs.Refused.{IsUnnamedFile}
use Rattle.ufs_start.specs.Starts.{AreNumbersOf, HaveNumbers, IsUndamaged, tree_in}
use Rattle.ufs_start.proofs.Joined.{form_there}

-- ---- options

some_of : (file : Bool) (o : Option ℕ) → file ≡ true → (file && is_none o) ≡ false → IsSome o
some_of file (Some x) is named = refl
some_of true None is named = cc
some_of false None is named = cc

none_of : (o : Option ℕ) → is_none o ≡ true → o ≡ None
none_of None is = refl
none_of (Some x) is = cc

-- where a file's bytes stand in a tree, a file does
number_of : (bytes : Files) (o : Option Node) (has : List ℕ) → content_of bytes o ≡ Some (path_node.File has) → (file : ℕ) × (o ≡ Some (File file))
number_of bytes None has e = cc
number_of bytes (Some Dir) has e = cc
number_of bytes (Some (File file)) has e = (file, refl)

-- where a file stands in a tree, no directory does
no_dir : (b : Bool) (o : Option (List ℕ)) (bytes : List ℕ) → option_map path_node.File o ≡ Some (path_node_of (if b then None else Some bytes)) → b ≡ false
no_dir false o bytes e = refl
no_dir true None bytes e = cc
no_dir true (Some has) bytes e = cc

pub forms_counted : (g : Geometry) (image : Image) (f : CatalogRead) → AreFindingsOf g image f → length f.forms ≡ g.inodes
forms_counted g image f found = ap length found.forms ∙ length-map-range_with_len (inode_at g image) 1 g.inodes

module _ (g : Geometry) (image : Image) (f : CatalogRead) (geometry : IsGeometry g) (u : IsUndamaged g image f) (is : IsCatalogOf g image (catalog_at g image)) (sound : IsSoundCatalog g (catalog_at g image)) (files : List (Option ℕ)) where
  abbrev c : Catalog
  c = catalog_at g image

  abbrev tree : ImageTree
  tree = tree_in g image

  abbrev start : PosixTree
  start = image_start tree

  some : 1 ≤ g.inodes
  some = has_root g geometry

  form_is : (i : ℕ) → IsInode g i → is_file_form (get_or f.forms (i - 1) None) ≡ ((form_at g image i).kind == 1)
  form_is i inside = ap is_file_form (form_there g image f geometry u is sound i inside)

  -- ---- no file lacks one

  pub have_numbers : ((inode : ℕ) → 1 ≤ inode → inode ≤ length f.forms → is_unnamed_in f.forms files inode ≡ false) → HaveNumbers g image files
  have_numbers none i inside kind =
      let most = inside.within in
      let long = forms_counted g image f u.found in
      some_of (is_file_form (get_or f.forms (i - 1) None)) (get_or files i None) (form_is i inside ∙ ap (λ k. k == 1) kind) (none i inside.from_one (omega (arith, most, long)))

  -- ---- or one does

  stands_there : (names : List (List ℕ)) (i : ℕ) → inode_of c names ≡ Some i → content_of start.bytes (fin.get start.paths (path_text names)) ≡ Some (path_node_of (node_of image c i))
  stands_there names i met =
      let pieces = (reached g c sound 1 names i (root_in_range g c sound some) met).1 in
      start_has_contents (paths_of tree) (path_text names)
      ∙ get-mapped path_total path_node_of tree (path_text names)
      ∙ ap (option_map path_node_of) (stands g image c is sound some names pieces)
      ∙ ap (λ o. option_map path_node_of (option_map (node_of image c) o)) met

  met_number : AreNumbersOf g image files → (names : List (List ℕ)) (i : ℕ) → inode_of c names ≡ Some i → (form_at g image i).kind ≡ 1 → (file : ℕ) × (get_or files i None ≡ Some file)
  met_number are names i met kind =
      let bytes = file_bytes image (form_at g image i) in
      let no_dir : ((form_at g image i).kind == 2) ≡ false = ap (λ k. k == 2) kind in
      let file = number_of start.bytes (fin.get start.paths (path_text names)) bytes (stands_there names i met ∙ ap (λ b. Some (path_node_of (if b then None else Some bytes))) no_dir) in
      (file.0, are.each i file.0 (record { names = names; met = met; stands = file.1 }))

  -- what has one is no directory
  pub numbered_file : AreNumbersOf g image files → (i file : ℕ) → get_or files i None ≡ Some file → ((form_at g image i).kind == 2) ≡ false
  numbered_file are i file number =
      let at = are.only i file number in
      no_dir ((form_at g image i).kind == 2) (fin.get start.bytes file) (file_bytes image (form_at g image i)) (sym (ap (content_of start.bytes) at.stands) ∙ stands_there at.names i at.met)

  pub unnamed_file : AreNumbersOf g image files → (i : ℕ) → IsInode g i → is_unnamed_in f.forms files i ≡ true → IsUnnamedFile g c i
  unnamed_file are i inside unnamed =
      let parts = and_parts (is_file_form (get_or f.forms (i - 1) None)) (is_none (get_or files i None)) unnamed in
      let file : ((form_at g image i).kind == 1) ≡ true = sym (form_is i inside) ∙ parts.0 in
      let kind : (form_at g image i).kind ≡ 1 = grind (arith, nat_tests) in
      record {
        in_range = inside;
        file = kind;
        unreached = λ names met.
            (let number = met_number are names i met kind in
            let clash : None ≡ Some number.0 = sym (none_of (get_or files i None) parts.1) ∙ number.1 in
            cc);
      }
