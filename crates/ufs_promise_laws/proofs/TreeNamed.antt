-- The names of an image's directories are those of a tree of its paths.
use Rattle.std.proofs.Common.{◌≡◌, ◌≢◌, ℕ, ◌≤◌, inl, List, [], Bool, true, false, Option, Some, None, ap, sym, refl, ◌∙◌, subst, arith}
use Rattle.std.specs.Prelude.{◌==◌, IsSome, is_some, unwrap_or, if◌then◌else◌}
use Rattle.std.specs.Option.{option_map}
use Rattle.std.specs.Ordering.{ordering_reverse}
use Rattle.std.specs.FinMap as map
use Rattle.std.specs.FinMap.{from_entries}
use Rattle.std.specs.declared.cmp.Ordering.{Ordering}
use Rattle.std.specs.declared.cmp.Ordering.TheVariants.{Less, Equal, Greater}
use Rattle.ufs_base.specs.Images.{Image}
use Rattle.ufs_image.specs.Catalog.{Catalog, IsInode}
use Rattle.ufs_image.specs.Nodes.{blocks_of}
use Rattle.ufs_image.specs.Opens.{file_bytes, path_cmp, walked}
use Rattle.ufs_image.specs.Standing.{IsVolumeOf}
use Rattle.ufs_image.specs.Volume.{Volume}
use Rattle.ufs_image.specs.Walks as cat
use Rattle.ufs_image.proofs.Depth.{has_root, root_in_range}
use Rattle.ufs_image.proofs.Found.{same_some, reached}
use Rattle.ufs_image.proofs.Opening.{has_geometry}
use Rattle.ufs_image.proofs.Paths.{stands}
use Rattle.ufs_image.proofs.Texts.{same_texts}
use Rattle.ufs_model.specs.PosixTree.{PosixTree, IsTree, Files}
use Rattle.ufs_model.specs.Start.{IsNumberedByPath, content_of}
use Rattle.ufs_model.specs.declared.data.Node.{Node}
use Rattle.ufs_model.specs.declared.data.Node.TheVariants as node
use Rattle.ufs_model.specs.declared.data.PathNode.TheVariants as path_node
use Rattle.ufs_model.proofs.Facts.Live.{held_has}
use Rattle.ufs_model.proofs.Facts.Orders.{path_total, path_same}
use Rattle.ufs_dir_tree.specs.DirTable.{IsReached, IsUsed, blocks_at, inode_of, found_at}
use Rattle.ufs_dir_tree.specs.declared.found.Found.{Found}
use Rattle.ufs_dir_tree.specs.declared.found.Found.TheVariants.{Dir, File}
use Rattle.ufs_dir_laws.specs.Meets.{found_in}
use Rattle.ufs_dir_laws.specs.Tables.{IsTableOf}
use Rattle.ufs_dir_laws.proofs.Walked.{meets}
use Rattle.ufs_dir_laws.proofs.Tables.{is_dir_table, met, met_inode, found_number}
use Rattle.ufs_dir_laws.proofs.WholeDirs.{whole_dirs}
use Rattle.ufs_ledger.specs.Kept.{path_node_of}
use Rattle.ufs_name_tree.specs.NameTable.{NameTable, IsNameTable, file_at, node_of, node_at}
use Rattle.ufs_names.specs.NamesPart.{IsNamedOnce}
use Rattle.ufs_names.specs.Stands.{Stands}
use Rattle.ufs_promise_laws.specs.Numbered.{HasImage, IsFileAt, IsNumberedAs}
use Rattle.ufs_promise_laws.proofs.PathTexts.{whole_text, plain_pieces}

-- ---- what stands, by its content

pub no_content : (bytes : Files) (o : Option Node) → ((f : ℕ) → o ≡ Some (node.File f) → is_some (map.get bytes f) ≡ true) → content_of bytes o ≡ None → o ≡ None
no_content bytes None has e = refl
no_content bytes (Some node.Dir) has e = cc
no_content bytes (Some (node.File f)) has e = by (map.get bytes f) (has f refl) e
  where
    by : (b : Option (List ℕ)) → is_some b ≡ true → option_map path_node.File b ≡ None → Some (node.File f) ≡ None
    by None is e = cc
    by (Some bytes) is e = cc

dir_content : (bytes : Files) (o : Option Node) → content_of bytes o ≡ Some path_node.Dir → o ≡ Some node.Dir
dir_content bytes None e = cc
dir_content bytes (Some node.Dir) e = refl
dir_content bytes (Some (node.File f)) e = by (map.get bytes f) e
  where
    by : (b : Option (List ℕ)) → option_map path_node.File b ≡ Some path_node.Dir → Some (node.File f) ≡ Some node.Dir
    by None e = cc
    by (Some bytes) e = cc

file_content : (bytes : Files) (o : Option Node) (has : List ℕ) → content_of bytes o ≡ Some (path_node.File has) → (f : ℕ) × (o ≡ Some (node.File f))
file_content bytes None has e = cc
file_content bytes (Some node.Dir) has e = cc
file_content bytes (Some (node.File f)) has e = (f, refl)

-- ---- numbers by rising path

pub named_once : (t : PosixTree) → IsNumberedByPath t → IsNamedOnce t.paths
named_once t by_path p q f at too = by (path_cmp p q) refl
  where
    by : (o : Ordering) → path_cmp p q ≡ o → p ≡ q
    by Less e = let below = by_path p q f f at too e in absurd (omega (arith, below))
    by Equal e = path_same p q e
    by Greater e = let below = by_path q p f f too at (path_total.antisymm q p ∙ ap ordering_reverse e) in absurd (omega (arith, below))

-- ---- the table of names

module _ (sectors : ℕ) (image : Image) (v : Volume) (c : Catalog) (n : NameTable) (t : PosixTree) (is : IsVolumeOf sectors image v c) (tree : IsTree t) (has : HasImage t (from_entries (walked v)))
    (once : IsNamedOnce t.paths) (of : IsTableOf v.geometry c n.dirs) (given : IsNumberedAs c n t.paths) where
  some : 1 ≤ v.geometry.inodes
  some = has_root v.geometry (has_geometry sectors image v is.taken).0

  root_inside : IsInode v.geometry 1
  root_inside = root_in_range v.geometry c is.sound some

  -- ---- what stands at the path of a walk

  content : (names : List (List ℕ)) → cat.ArePieces names → content_of t.bytes (map.get t.paths (cat.path_text names)) ≡ option_map path_node_of (option_map (cat.node_of v.image c) (cat.inode_of c names))
  content names pieces = has (cat.path_text names) ∙ ap (option_map path_node_of) (stands v.geometry v.image c is.catalog is.sound some names pieces)

  content_met : (names : List (List ℕ)) (i : ℕ) → cat.inode_of c names ≡ Some i → content_of t.bytes (map.get t.paths (cat.path_text names)) ≡ Some (path_node_of (cat.node_of v.image c i))
  content_met names i met = content names (reached v.geometry c is.sound 1 names i root_inside met).1 ∙ ap (λ o. option_map path_node_of (option_map (cat.node_of v.image c) o)) met

  dir_stands : (names : List (List ℕ)) (i : ℕ) → cat.inode_of c names ≡ Some i → ((c.forms i).kind == 2) ≡ true → map.get t.paths (cat.path_text names) ≡ Some node.Dir
  dir_stands names i met dir = dir_content t.bytes _ (content_met names i met ∙ ap (λ b. Some (path_node_of (if b then None else Some (file_bytes v.image (c.forms i))))) dir)

  file_stands : (names : List (List ℕ)) (i : ℕ) → cat.inode_of c names ≡ Some i → ((c.forms i).kind == 2) ≡ false → (f : ℕ) × (map.get t.paths (cat.path_text names) ≡ Some (node.File f))
  file_stands names i met file = file_content t.bytes _ (file_bytes v.image (c.forms i)) (content_met names i met ∙ ap (λ b. Some (path_node_of (if b then None else Some (file_bytes v.image (c.forms i))))) file)

  none_stands : (names : List (List ℕ)) → cat.ArePieces names → cat.inode_of c names ≡ None → map.get t.paths (cat.path_text names) ≡ None
  none_stands names pieces none =
      no_content t.bytes _ (λ f at. held_has t tree f (inl (cat.path_text names, at)))
      (content names pieces ∙ ap (λ o. option_map path_node_of (option_map (cat.node_of v.image c) o)) none)

  -- ---- which inodes have numbers

  found_file : (i j : ℕ) → found_in c j ≡ File i → ((c.forms j).kind == 2) ≡ false
  found_file i j = by ((c.forms j).kind == 2)
    where
      by : (b : Bool) → (if b then Dir j else File j) ≡ File i → b ≡ false
      by true e = cc
      by false e = refl

  found_dir : (i j : ℕ) → found_in c j ≡ Dir i → ((c.forms j).kind == 2) ≡ true
  found_dir i j = by ((c.forms j).kind == 2)
    where
      by : (b : Bool) → (if b then Dir j else File j) ≡ Dir i → b ≡ true
      by true e = refl
      by false e = cc

  met_at : (names : List (List ℕ)) (f : Found) → found_at n.dirs names ≡ Some f → (i : ℕ) × (cat.inode_of c names ≡ Some i) × (found_in c i ≡ f)
  met_at = met_inode v.geometry v.image c n.dirs some is.catalog is.sound of

  number_of : (i : ℕ) → inode_of (found_in c i) ≡ i
  number_of = found_number v.geometry v.image c n.dirs some is.catalog is.sound of

  -- an inode with a number is no directory
  is_no_dir : (i f : ℕ) → file_at n i ≡ Some f → ((c.forms i).kind == 2) ≡ false
  is_no_dir i f e = by ((c.forms i).kind == 2) refl
    where
      at : IsFileAt c t.paths i f
      at = given.only i f e

      by : (b : Bool) → ((c.forms i).kind == 2) ≡ b → b ≡ false
      by true dir = let both : Some (node.File f) ≡ Some node.Dir = sym at.stands ∙ dir_stands at.names i at.met dir in cc
      by false dir = refl

  named : (names : List (List ℕ)) (i : ℕ) → found_at n.dirs names ≡ Some (File i) → IsSome (file_at n i)
  named names i e =
      let at = met_at names (File i) e in
      let same : at.0 ≡ i = sym (number_of at.0) ∙ ap inode_of at.2 in
      let file = file_stands names at.0 at.1 (found_file i at.0 at.2) in
      let number = given.each at.0 file.0 (record { names = names; met = at.1; stands = file.1 }) in
      ap is_some (ap (file_at n) (sym same) ∙ number)

  used : (i f : ℕ) → file_at n i ≡ Some f → IsUsed n.dirs i
  used i f e =
      let at = given.only i f e in
      let found : found_at n.dirs at.names ≡ Some (found_in c i) = meets v.geometry c n.dirs is.sound of.slots root_inside at.names ∙ ap (option_map (found_in c)) at.met in
      subst (IsUsed n.dirs) (number_of i) (met v.geometry v.image c n.dirs some is.catalog is.sound of at.names (found_in c i) found)

  no_dir : (i f : ℕ) (names : List (List ℕ)) → file_at n i ≡ Some f → found_at n.dirs names ≢ Some (Dir i)
  no_dir i f names e found =
      let at = met_at names (Dir i) found in
      let same : at.0 ≡ i = sym (number_of at.0) ∙ ap inode_of at.2 in
      let both : true ≡ false = sym (found_dir i at.0 at.2) ∙ ap (λ k. (c.forms k).kind == 2) same ∙ is_no_dir i f e in
      absurd cc

  pub bare : (i f : ℕ) → file_at n i ≡ Some f → blocks_at n.dirs i ≡ []
  bare i f e =
      let at = given.only i f e in
      of.blocks i (reached v.geometry c is.sound 1 at.names i root_inside at.met).0 ∙ ap (λ b. if b then blocks_of (c.forms i) else []) (is_no_dir i f e)

  one_inode : (i j f : ℕ) → file_at n i ≡ Some f → file_at n j ≡ Some f → i ≡ j
  one_inode i j f e o =
      let a = given.only i f e in
      let b = given.only j f o in
      let pieces_a = (reached v.geometry c is.sound 1 a.names i root_inside a.met).1 in
      let pieces_b = (reached v.geometry c is.sound 1 b.names j root_inside b.met).1 in
      let names : a.names ≡ b.names = same_texts a.names b.names pieces_a pieces_b (once (cat.path_text a.names) (cat.path_text b.names) f a.stands b.stands) in
      same_some i j (sym a.met ∙ ap (cat.inode_of c) names ∙ b.met)

  pub is_name_table : IsReached n.dirs → IsNameTable n
  is_name_table reached = record {
    table = is_dir_table v.geometry v.image c n.dirs some is.catalog is.sound of (whole_dirs v.geometry v.image c n.dirs some (has_geometry sectors image v is.taken).0.most_blocks is.catalog is.sound of) reached;
    counted = given.counted;
    named = named;
    used = used;
    no_dir = no_dir;
    bare = bare;
    once = one_inode;
  }

  -- ---- what it tells

  node_met : (names : List (List ℕ)) (i : ℕ) → cat.inode_of c names ≡ Some i → map.get t.paths (cat.path_text names) ≡ Some (node_of n (found_in c i))
  node_met names i met = by ((c.forms i).kind == 2) refl
    where
      by : (b : Bool) → ((c.forms i).kind == 2) ≡ b → map.get t.paths (cat.path_text names) ≡ Some (node_of n (found_in c i))
      by true dir = dir_stands names i met dir ∙ ap (λ b. Some (node_of n (if b then Dir i else File i))) (sym dir)
      by false dir =
          let file = file_stands names i met dir in
          let number = given.each i file.0 (record { names = names; met = met; stands = file.1 }) in
          file.1 ∙ ap (λ o. Some (node.File (unwrap_or o 0))) (sym number) ∙ ap (λ b. Some (node_of n (if b then Dir i else File i))) (sym dir)

  told : (names : List (List ℕ)) → node_at n names ≡ option_map (node_of n) (option_map (found_in c) (cat.inode_of c names))
  told names = ap (option_map (node_of n)) (meets v.geometry c n.dirs is.sound of.slots root_inside names)

  pub names_stand : Stands (node_at n) t.paths
  names_stand names plain allowed = ap (map.get t.paths) (whole_text names) ∙ by (cat.inode_of c names) refl ∙ sym (told names)
    where
      by : (o : Option ℕ) → cat.inode_of c names ≡ o → map.get t.paths (cat.path_text names) ≡ option_map (node_of n) (option_map (found_in c) (cat.inode_of c names))
      by None met = none_stands names (plain_pieces names plain) met ∙ ap (λ o. option_map (node_of n) (option_map (found_in c) o)) (sym met)
      by (Some i) met = node_met names i met ∙ ap (λ o. option_map (node_of n) (option_map (found_in c) o)) (sym met)
