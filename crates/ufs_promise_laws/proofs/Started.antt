-- The tree of an image is one that a session can begin with.
use Rattle.std.proofs.Common.{◌≡◌, ℕ, suc, ◌-◌, ◌≤◌, List, [], ◌∷◌, true, false, length, take, Option, Some, None, is_some, ap, sym, refl, ◌∙◌, subst, arith}
use Rattle.std.specs.Prelude.{Ok, ◌==◌, if◌then◌else◌}
use Rattle.std.specs.Option.{option_map}
use Rattle.std.specs.FinMap as map
use Rattle.std.specs.FinMap.{from_entries}
use Rattle.ufs_base.specs.Images.{Image}
use Rattle.ufs_base.specs.Choices.{first_of}
use Rattle.ufs_image.specs.Catalog.{Catalog, IsInode}
use Rattle.ufs_image.specs.Opens.{ImageTree, NodeBytes, file_bytes, opens, walked}
use Rattle.ufs_image.specs.Standing.{IsVolumeOf}
use Rattle.ufs_image.specs.Volume.{Volume}
use Rattle.ufs_image.specs.Walks as cat
use Rattle.ufs_image.proofs.Depth.{has_root, root_in_range}
use Rattle.ufs_image.proofs.Found.{Names, first_step, child-some, names_inode, reached}
use Rattle.ufs_image.proofs.Opening.{has_geometry, opened, opens_to}
use Rattle.ufs_image.proofs.Paths.{IsStanding, stands, standing}
use Rattle.ufs_image.proofs.Slots.{dir_kind}
use Rattle.ufs_model.specs.Paths.{IsWhole, components, components_refusal, whole_path, parent_of}
use Rattle.ufs_model.specs.Start.{IsPathTree, is_path_dir}
use Rattle.ufs_model.specs.declared.data.Errno.{Errno}
use Rattle.ufs_model.proofs.ContentLemmas.{start_has_contents, start_is_numbered}
use Rattle.ufs_model.proofs.Facts.Orders.{path_total}
use Rattle.ufs_model.proofs.Facts.Pieces.{components_of}
use Rattle.ufs_model.proofs.Facts.Starts.{start_is_tree}
use Rattle.ufs_path.specs.Names.{IsName}
use Rattle.ufs_crash_laws.proofs.Facts.Mapped.{get-mapped}
use Rattle.ufs_ledger.specs.Kept.{path_node_of, paths_of}
use Rattle.ufs_dir_laws.proofs.Tables.{dentry_name}
use Rattle.ufs_names.specs.NamesPart.{NamesPart, IsNamesPart}
use Rattle.ufs_names.proofs.EntryLemmas.{allowed_name}
use Rattle.ufs_promise_laws.specs.Numbered.{HasImage}
use Rattle.ufs_promise_laws.specs.TreeParts.{IsNamesOf}
use Rattle.ufs_promise_laws.specs.Starts.{image_start}
use Rattle.ufs_promise_laws.proofs.TreeNamed.{named_once}
use Rattle.ufs_promise_laws.proofs.Parted.{is_part}
use Rattle.ufs_promise_laws.proofs.PathTexts.{whole_text, pieces_plain}

module _ (sectors : ℕ) (image : Image) (v : Volume) (c : Catalog) (is : IsVolumeOf sectors image v c) where
  abbrev tree : ImageTree
  tree = from_entries (walked v)

  some : 1 ≤ v.geometry.inodes
  some = has_root v.geometry (has_geometry sectors image v is.taken).0

  root_inside : IsInode v.geometry 1
  root_inside = root_in_range v.geometry c is.sound some

  -- ---- the names of a walk

  child_name : (at : ℕ) (name : List ℕ) (i : ℕ) → Names v.geometry c at name i → IsName name
  child_name at name i named = subst IsName named.name_is (dentry_name v.geometry v.image c is.catalog is.sound at named.place named.dentry named.has)

  allowed : (at : ℕ) (names : List (List ℕ)) (i : ℕ) → IsInode v.geometry at → cat.walk_from c (Some at) names ≡ Some i → components_refusal names ≡ None
  allowed at [] i inside e = refl
  allowed at (name ∷ names) i inside e =
      let next = first_step c (cat.child_of c at name) names i e in
      let named = child-some v.geometry c is.sound at name next.0 inside next.1 in
      ap (λ (o : Option Errno). first_of o (components_refusal names)) (allowed_name name (child_name at name next.0 named))
      ∙ allowed next.0 names i (names_inode v.geometry c is.sound at name next.0 named) (ap (λ o. cat.walk_from c o names) (sym next.1) ∙ e)

  -- what has a name below is a directory
  above : (at : ℕ) (name : List ℕ) (names : List (List ℕ)) (i : ℕ) → IsInode v.geometry at → cat.walk_from c (Some at) (name ∷ names) ≡ Some i
      → (k : ℕ) × (cat.walk_from c (Some at) (take (length names) (name ∷ names)) ≡ Some k) × (((c.forms k).kind == 2) ≡ true)
  above at name [] i inside e =
      let named = child-some v.geometry c is.sound at name i inside e in
      (at, refl, dir_kind c at named.place named.dentry named.has.there)
  above at name (next ∷ rest) i inside e =
      let step = first_step c (cat.child_of c at name) (next ∷ rest) i e in
      let named = child-some v.geometry c is.sound at name step.0 inside step.1 in
      let deeper = above step.0 next rest i (names_inode v.geometry c is.sound at name step.0 named) (ap (λ o. cat.walk_from c o (next ∷ rest)) (sym step.1) ∙ e) in
      (deeper.0, ap (λ o. cat.walk_from c o (take (length rest) (next ∷ rest))) step.1 ∙ deeper.1, deeper.2)

  -- ---- what stands at a path

  node_there : (path : List ℕ) → map.get (paths_of tree) path ≡ option_map path_node_of (map.get tree path)
  node_there path = get-mapped path_total path_node_of tree path

  is_dir_at : (names : List (List ℕ)) (k : ℕ) → cat.inode_of c names ≡ Some k → ((c.forms k).kind == 2) ≡ true → is_path_dir (map.get (paths_of tree) (cat.path_text names)) ≡ true
  is_dir_at names k met dir =
      let pieces = (reached v.geometry c is.sound 1 names k root_inside met).1 in
      ap is_path_dir (node_there (cat.path_text names) ∙ ap (option_map path_node_of) (stands v.geometry v.image c is.catalog is.sound some names pieces)
      ∙ ap (λ o. option_map path_node_of (option_map (cat.node_of v.image c) o)) met
      ∙ ap (λ b. Some (path_node_of (if b then None else Some (file_bytes v.image (c.forms k))))) dir)

  root_dir : ((c.forms 1).kind == 2) ≡ true
  root_dir = ap (λ k. k == 2) is.sound.root

  standing_at : (path : List ℕ) → is_some (map.get (paths_of tree) path) ≡ true → (w : NodeBytes) × IsStanding v.image c (path, w)
  standing_at path there = by (map.get tree path) refl
    where
      by : (o : Option NodeBytes) → map.get tree path ≡ o → (w : NodeBytes) × IsStanding v.image c (path, w)
      by None e = let none : false ≡ true = sym (ap is_some (node_there path ∙ ap (option_map path_node_of) e)) ∙ there in absurd cc
      by (Some w) e = (w, standing v.geometry v.image c is.catalog is.sound some path w e)

  -- ---- a tree of paths

  whole : (path : List ℕ) → is_some (map.get (paths_of tree) path) ≡ true → IsWhole path
  whole path there =
      let at = standing_at path there in
      let text : path ≡ whole_path at.1.names = at.1.text ∙ sym (whole_text at.1.names) in
      let names = components_of at.1.names (pieces_plain at.1.names at.1.pieces) in
      record {
        spelled = ap (λ p. whole_path (components p)) text ∙ ap whole_path names ∙ sym text;
        allowed = ap (λ p. components_refusal (components p)) text ∙ ap components_refusal names ∙ allowed 1 at.1.names at.1.at root_inside at.1.met;
      }

  parent_dir : (names : List (List ℕ)) (i : ℕ) → cat.inode_of c names ≡ Some i → is_path_dir (map.get (paths_of tree) (whole_path (take (length names - 1) names))) ≡ true
  parent_dir [] i met = is_dir_at [] 1 refl root_dir
  parent_dir (name ∷ names) i met =
      let count : suc (length names) - 1 ≡ length names = omega arith in
      let dir = above 1 name names i root_inside met in
      ap (λ n. is_path_dir (map.get (paths_of tree) (whole_path (take n (name ∷ names))))) count
      ∙ ap (λ p. is_path_dir (map.get (paths_of tree) p)) (whole_text (take (length names) (name ∷ names)))
      ∙ is_dir_at (take (length names) (name ∷ names)) dir.0 dir.1 dir.2

  parents : (path : List ℕ) → is_some (map.get (paths_of tree) path) ≡ true → is_path_dir (map.get (paths_of tree) (parent_of path)) ≡ true
  parents path there =
      let at = standing_at path there in
      let text : path ≡ whole_path at.1.names = at.1.text ∙ sym (whole_text at.1.names) in
      let names = components_of at.1.names (pieces_plain at.1.names at.1.pieces) in
      ap (λ p. is_path_dir (map.get (paths_of tree) (parent_of p))) text
      ∙ ap (λ ns. is_path_dir (map.get (paths_of tree) (whole_path (take (length ns - 1) ns)))) names
      ∙ parent_dir at.1.names at.1.at at.1.met

  pub walked_is_tree : IsPathTree (paths_of tree)
  walked_is_tree = record { root_is_dir = is_dir_at [] 1 refl root_dir; whole = whole; parents = parents }

  pub walked_part : (n : NamesPart) → IsNamesOf v.geometry c (image_start tree) n → IsNamesPart n (image_start tree)
  walked_part n of =
      is_part sectors image v c (image_start tree) n is (start_is_tree (paths_of tree) walked_is_tree) contents
      (named_once (image_start tree) (start_is_numbered (paths_of tree))) refl of
    where
      contents : HasImage (image_start tree) tree
      contents path = start_has_contents (paths_of tree) path ∙ node_there path

-- ---- of the tree that an image opens to

pub image_is_tree : (sectors : ℕ) (image : Image) (tree : ImageTree) → opens sectors image ≡ Ok tree → IsPathTree (paths_of tree)
image_is_tree sectors image tree e =
    let is = opened sectors image tree e in
    subst (λ t. IsPathTree (paths_of t)) (sym is.2) (walked_is_tree sectors image is.0 _ is.1)

pub image_part : (sectors : ℕ) (image : Image) (tree : ImageTree) (v : Volume) (c : Catalog) (n : NamesPart) → opens sectors image ≡ Ok tree → IsVolumeOf sectors image v c
    → IsNamesOf v.geometry c (image_start tree) n → IsNamesPart n (image_start tree)
image_part sectors image tree v c n e is of =
    let same : from_entries (walked v) ≡ tree = let to = opens_to sectors image v c is in cc in
    subst (λ t. IsNamesPart n (image_start t)) same (walked_part sectors image v c is n (subst (λ t. IsNamesOf v.geometry c (image_start t) n) (sym same) of))
