-- The files of an image have in its start the numbers that its places get in turn.
use Rattle.std.proofs.Common.{◌≡◌, ℕ, zero, suc, ◌+◌, ◌-◌, ◌<◌, ◌≤◌, inl, inr, Bool, true, List, [], ◌∷◌, length, Option, Some, None, get_or, replicate, refl, ap, sym, ◌∙◌, arith}
use Rattle.std.specs.Prelude.{map, ◌==◌, ◌&&◌}
use Rattle.std.specs.Ordering.{is_lt}
use Rattle.std.specs.FinMap as fin
use Rattle.std.specs.FinMap.{find, from_entries, get-from_entries, is_sorted, entries}
use Rattle.std.specs.FinMap.Entries.{below_all}
use Rattle.std.proofs.lemmas.List.{length-replicate}
use Rattle.std.proofs.lemmas.List.FromFn.{get_or-map-range_with_len}
use Rattle.ufs_base.specs.Images.{Image}
use Rattle.ufs_layout.specs.declared.geometry.Geometry.{Geometry}
use Rattle.ufs_layout.specs.Areas.{IsGeometry}
use Rattle.ufs_layout.specs.InodeForm.{InodeForm}
use Rattle.ufs_damage.specs.Findings.{CatalogRead}
use Rattle.ufs_image.specs.Images.{form_at, inode_at}
use Rattle.ufs_image.specs.Catalog.{Catalog, IsInode, IsCatalogOf, catalog_at}
use Rattle.ufs_image.specs.Opens.{ImageTree, NodeBytes, PathEntry, file_bytes, node_bytes}
use Rattle.ufs_image.specs.Sound.{IsSoundCatalog}
use Rattle.ufs_image.specs.Walks.{inode_of, path_text}
use Rattle.ufs_image.proofs.Lists.{IsIn}
use Rattle.ufs_image.proofs.Found.{reached}
use Rattle.ufs_image.proofs.Depth.{has_root, root_in_range}
use Rattle.ufs_model.specs.Order.{path_cmp}
use Rattle.ufs_model.specs.Start.{paths_from, next_from}
use Rattle.ufs_model.specs.declared.data.PathNode.{PathNode}
use Rattle.ufs_model.proofs.Facts.Orders.{path_total, path_same}
use Rattle.ufs_model.proofs.Facts.Rising.{entries-rising, entries-rise}
use Rattle.ufs_ledger.specs.Kept.{path_node_of, paths_of}
use Rattle.ufs_promise_laws.specs.Numbered.{IsFileAt}
use Rattle.ufs_promise_laws.specs.Starts.{image_start}
use Rattle.ufs_walk.specs.Walked.{AreInodes, Place, places}
use Rattle.ufs_walk.proofs.Maps.{mapped_same}
use Rattle.ufs_walk.proofs.Reached.{IsMetAtPlace, found_in, from_places, in_found, in_places}
use Rattle.ufs_walk.proofs.Told.{all_places}
use Rattle.ufs_start.specs.Starts.{AreNumbersOf, IsUndamaged, tree_in}
use Rattle.ufs_start.specs.Numbers.{after, is_dir_form, is_dir_in, noted, numbers_from, next_number}
use Rattle.ufs_start.proofs.NumberLemmas.{PathsOnce, AreOnce, find_once, rising_once, from_number, has_number, nodes_of, paths_are, next_is}
use Rattle.ufs_start.proofs.Places.{one_inode, one_place}

-- ---- lists with the same keys rise alike

module _ {X Y : Type 0} (f : X → Y) where
  abbrev with_values : List (List ℕ × X) → List (List ℕ × Y)
  with_values es = map {B = List ℕ × Y} (λ (e : List ℕ × X). (e.0, f e.1)) es

  below_mapped : (k : List ℕ) (es : List (List ℕ × X)) → below_all path_cmp k (with_values es) ≡ below_all path_cmp k es
  below_mapped k [] = refl
  below_mapped k (e ∷ es) = ap (λ b. is_lt (path_cmp k e.0) && b) (below_mapped k es)

  rises_mapped : (es : List (List ℕ × X)) → is_sorted path_cmp (with_values es) ≡ is_sorted path_cmp es
  rises_mapped [] = refl
  rises_mapped (e ∷ es) = λ i. below_mapped e.0 es i && rises_mapped es i

  entries_mapped : (es : List (List ℕ × X)) → is_sorted path_cmp es ≡ true → entries (from_entries {R = path_cmp} (with_values es)) ≡ with_values es
  entries_mapped es rising = entries-rising path_cmp path_total path_same (with_values es) (rises_mapped es ∙ rising)

none_there : (n i : ℕ) → get_or {A = Option ℕ} (replicate n None) i None ≡ None
none_there zero i = refl
none_there (suc n) zero = refl
none_there (suc n) (suc i) = none_there n i

module _ (g : Geometry) (image : Image) (is : IsCatalogOf g image (catalog_at g image)) (sound : IsSoundCatalog g (catalog_at g image)) (some : 1 ≤ g.inodes)
    (ps : List Place) (rising : is_sorted path_cmp ps ≡ true) (at : from_entries {R = path_cmp} ps ≡ from_entries (places g image)) where
  abbrev c : Catalog
  c = catalog_at g image

  abbrev tree : ImageTree
  tree = tree_in g image

  abbrev dir : ℕ → Bool
  dir i = (form_at g image i).kind == 2

  abbrev bytes : ℕ → List ℕ
  bytes i = file_bytes image (form_at g image i)

  abbrev node : ℕ → NodeBytes
  node i = node_bytes image (form_at g image i)

  -- ---- the tree's entries

  tree_is : tree ≡ from_entries (with_values node ps)
  tree_is = ap (λ (l : List PathEntry). from_entries {R = path_cmp} l) (all_places g image sound.root) ∙ sym (mapped_same {X = NodeBytes} node ps (places g image) at)

  tree_entries : entries tree ≡ with_values node ps
  tree_entries = ap (λ (t : ImageTree). entries t) tree_is ∙ entries_mapped node ps rising

  twice : (qs : List Place) → with_values path_node_of (with_values node qs) ≡ nodes_of dir bytes qs
  twice [] = refl
  twice (q ∷ qs) = ap (λ l. (q.0, path_node_of (node q.1)) ∷ l) (twice qs)

  start_entries : entries (paths_of tree) ≡ nodes_of dir bytes ps
  start_entries = entries_mapped path_node_of (entries tree) (entries-rise tree) ∙ ap (with_values path_node_of) tree_entries ∙ twice ps

  pub next_there : next_number dir 0 ps ≡ (image_start tree).next
  next_there = sym (next_is dir bytes 0 ps) ∙ ap (next_from 0) (sym start_entries)

  node_at : (q : List ℕ) → fin.get (image_start tree).paths q ≡ find path_cmp q (paths_from 0 (nodes_of dir bytes ps))
  node_at q = get-from_entries path_total (paths_from 0 (entries (paths_of tree))) q ∙ ap (λ (l : List (List ℕ × PathNode)). find path_cmp q (paths_from 0 l)) start_entries

  -- ---- the places

  once : PathsOnce ps
  once = rising_once ps rising

  placed : (p : Place) → IsIn p ps → IsMetAtPlace c p
  placed p there =
      let found : find path_cmp p.0 (places g image) ≡ Some p.1 =
      sym (get-from_entries path_total (places g image) p.0) ∙ ap (λ (m : fin.FinMap path_cmp ℕ). fin.get m p.0) (sym at) ∙ get-from_entries path_total ps p.0 ∙ find_once ps p once there in
      from_places g image c is sound some p (found_in p.0 p.1 (places g image) found)

  there : (names : List (List ℕ)) (i : ℕ) → inode_of c names ≡ Some i → IsIn (path_text names, i) ps
  there names i met =
      let here = in_places g image c is sound some names i met in
      let found = in_found (path_text names) i (places g image) here in
      let other = found_in (path_text names) found.0 (places g image) found.1 in
      let same : found.0 ≡ i = one_inode g c sound some (path_text names, found.0) (path_text names, i) (from_places g image c is sound some (path_text names, found.0) other) (from_places g image c is sound some (path_text names, i) here) refl in
      found_in (path_text names) i ps
      (sym (get-from_entries path_total ps (path_text names)) ∙ ap (λ (m : fin.FinMap path_cmp ℕ). fin.get m (path_text names)) at
      ∙ get-from_entries path_total (places g image) (path_text names) ∙ found.1 ∙ ap Some same)

  all_once : (qs : List Place) → ((q : Place) → IsIn q qs → IsIn q ps) → PathsOnce qs → AreOnce qs
  all_once [] in_ps paths = tt
  all_once (p ∷ qs) in_ps paths = (
    λ q below. (paths.0 q below, λ same. paths.0 q below (one_place g c sound some q p (placed q (in_ps q (inr below))) (placed p (in_ps p (inl refl))) same)),
    all_once qs (λ q below. in_ps q (inr below)) paths.1,
  )

  are_once : AreOnce ps
  are_once = all_once ps (λ q is_in. is_in) once

  -- ---- the numbers

  abbrev none : List (Option ℕ)
  none = replicate (g.inodes + 1) None

  within : (q : Place) → IsIn q ps → q.1 < length none
  within q is_in =
      let at = placed q is_in in
      let most = (reached g c sound 1 at.names q.1 (root_in_range g c sound some) at.met).0.within in
      let long : length none ≡ g.inodes + 1 = length-replicate {A = Option ℕ} (g.inodes + 1) None in
      omega (arith, most, long)

  pub each_number : (i f : ℕ) → IsFileAt c (image_start tree).paths i f → get_or (numbers_from dir 0 ps none) i None ≡ Some f
  each_number i f file =
      has_number dir 0 ps none are_once within (path_text file.names) i f (there file.names i file.met)
      (ap (find path_cmp (path_text file.names)) (sym (paths_are dir bytes 0 ps)) ∙ sym (node_at (path_text file.names)) ∙ file.stands)

  pub only_number : (i f : ℕ) → get_or (numbers_from dir 0 ps none) i None ≡ Some f → IsFileAt c (image_start tree).paths i f
  only_number i f e = elim (from_number dir 0 ps none are_once within i f e) [
    | inl was ↦ (let nothing : None ≡ Some f = sym (none_there (g.inodes + 1) i) ∙ was in absurd cc)
    | inr known ↦ (let here = placed (known.0, i) known.1 in
        record {
          names = here.names;
          met = here.met;
          stands = ap (fin.get (image_start tree).paths) (sym here.text) ∙ node_at known.0 ∙ ap (find path_cmp known.0) (paths_are dir bytes 0 ps) ∙ known.2;
        })
  ]

-- ---- by the forms that were read

module _ (g : Geometry) (image : Image) (f : CatalogRead) (geometry : IsGeometry g) (u : IsUndamaged g image f) (is : IsCatalogOf g image (catalog_at g image)) (sound : IsSoundCatalog g (catalog_at g image)) where
  some : 1 ≤ g.inodes
  some = has_root g geometry

  pub form_there : (i : ℕ) → IsInode g i → get_or f.forms (i - 1) None ≡ Some (form_at g image i)
  form_there i inside =
      let from = inside.from_one in
      let most = inside.within in
      ap (λ (l : List (Option InodeForm)). get_or l (i - 1) None) u.found.forms
      ∙ get_or-map-range_with_len (inode_at g image) 1 g.inodes (i - 1) i None (omega (arith, from, most)) (omega (arith, from))
      ∙ is.forms i inside

  dir_is : (i : ℕ) → IsInode g i → is_dir_in f.forms i ≡ ((form_at g image i).kind == 2)
  dir_is i inside = ap is_dir_form (form_there i inside)

  numbers_same : (next : ℕ) (ps : List Place) (files : List (Option ℕ)) → AreInodes g ps → numbers_from (is_dir_in f.forms) next ps files ≡ numbers_from (λ i. (form_at g image i).kind == 2) next ps files
  numbers_same next [] files all = refl
  numbers_same next (p ∷ ps) files all =
      let here = dir_is p.1 all.0 in
      ap (λ b. numbers_from (is_dir_in f.forms) (after b next) ps (noted b next p.1 files)) here
      ∙ numbers_same (after ((form_at g image p.1).kind == 2) next) ps (noted ((form_at g image p.1).kind == 2) next p.1 files) all.1

  next_same : (next : ℕ) (ps : List Place) → AreInodes g ps → next_number (is_dir_in f.forms) next ps ≡ next_number (λ i. (form_at g image i).kind == 2) next ps
  next_same next [] all = refl
  next_same next (p ∷ ps) all =
      ap (λ b. next_number (is_dir_in f.forms) (after b next) ps) (dir_is p.1 all.0) ∙ next_same (after ((form_at g image p.1).kind == 2) next) ps all.1

  pub are_numbers : (ps : List Place) → is_sorted path_cmp ps ≡ true → AreInodes g ps → from_entries {R = path_cmp} ps ≡ from_entries (places g image) → (files : List (Option ℕ))
      → files ≡ numbers_from (is_dir_in f.forms) 0 ps (replicate (g.inodes + 1) None) → AreNumbersOf g image files
  are_numbers ps rising all at files e =
      let same : files ≡ numbers_from (λ i. (form_at g image i).kind == 2) 0 ps (replicate (g.inodes + 1) None) = e ∙ numbers_same 0 ps (replicate (g.inodes + 1) None) all in
      record {
        each = λ i n file. ap (λ (l : List (Option ℕ)). get_or l i None) same ∙ each_number g image is sound some ps rising at i n file;
        only = λ i n has. only_number g image is sound some ps rising at i n (ap (λ (l : List (Option ℕ)). get_or l i None) (sym same) ∙ has);
      }

  pub is_next : (ps : List Place) → is_sorted path_cmp ps ≡ true → AreInodes g ps → from_entries {R = path_cmp} ps ≡ from_entries (places g image) → (next : ℕ)
      → next ≡ next_number (is_dir_in f.forms) 0 ps → next ≡ (image_start (tree_in g image)).next
  is_next ps rising all at next e = e ∙ next_same 0 ps all ∙ next_there g image is sound some ps rising at
