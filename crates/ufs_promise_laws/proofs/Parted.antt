-- The names of an image's directories are a part of the tree that it opens to.
use Rattle.std.proofs.Common.{◌≡◌, ℕ, zero, suc, ◌≤◌, inl, inr, true, false, Option, Some, None, is_some, ap, sym, refl, ◌∙◌, get_or}
use Rattle.std.specs.Prelude.{unwrap_or, replicate}
use Rattle.std.specs.Option.{option_map}
use Rattle.std.specs.List.{list_any}
use Rattle.std.specs.FinMap as map
use Rattle.std.specs.FinMap.{from_entries, get-empty}
use Rattle.std.proofs.lemmas.Bool.{false_from_ne_true}
use Rattle.ufs_base.specs.Images.{Image}
use Rattle.ufs_image.specs.Catalog.{Catalog}
use Rattle.ufs_image.specs.Opens.{NodeBytes, path_cmp, walked}
use Rattle.ufs_image.specs.Standing.{IsVolumeOf}
use Rattle.ufs_image.specs.Volume.{Volume}
use Rattle.ufs_image.specs.Walks as cat
use Rattle.ufs_image.proofs.Depth.{has_root}
use Rattle.ufs_image.proofs.Opening.{has_geometry}
use Rattle.ufs_image.proofs.Paths.{standing}
use Rattle.ufs_model.specs.Order.{fd_cmp}
use Rattle.ufs_model.specs.PosixTree.{PosixTree, IsTree, is_node_of}
use Rattle.ufs_model.specs.Touched.{holds}
use Rattle.ufs_model.specs.declared.data.Node.TheVariants as node
use Rattle.ufs_model.proofs.Facts.Held.{holder}
use Rattle.ufs_model.proofs.Facts.Live.{Named, Held, held_has, has_held, node_is, is_itself, alike}
use Rattle.ufs_model.proofs.Facts.Lookups.{passes, from_passes}
use Rattle.ufs_model.proofs.Facts.Orders.{path_total, path_same}
use Rattle.ufs_ledger.specs.Kept.{path_node_of}
use Rattle.ufs_name_tree.specs.NameTable.{file_at}
use Rattle.ufs_names.specs.NamesPart.{NamesPart, IsNamedOnce, IsNamesPart, AreInodesOf, unheld, holding_of, is_linked, is_holder}
use Rattle.ufs_names.specs.declared.holding.Holding.{Holding}
use Rattle.ufs_promise_laws.specs.Numbered.{HasImage}
use Rattle.ufs_promise_laws.specs.TreeParts.{closed_file, IsNamesOf}
use Rattle.ufs_promise_laws.proofs.TreeNamed.{no_content, names_stand}

no_client : (k i : ℕ) → get_or (replicate k false) i false ≡ false
no_client zero i = refl
no_client (suc k) zero = refl
no_client (suc k) (suc i) = no_client k i

some_is : {X : Type 0} (o : Option X) → is_some o ≡ true → (x : X) × (o ≡ Some x)
some_is None e = cc
some_is (Some x) e = (x, refl)

module _ (sectors : ℕ) (image : Image) (v : Volume) (c : Catalog) (t : PosixTree) (n : NamesPart) (is : IsVolumeOf sectors image v c) (tree : IsTree t) (has : HasImage t (from_entries (walked v)))
    (once : IsNamedOnce t.paths) (closed : t.fds ≡ map.empty) (of : IsNamesOf v.geometry c t n) where
  some : 1 ≤ v.geometry.inodes
  some = has_root v.geometry (has_geometry sectors image v is.taken).0

  -- ---- a path names a file, or its inode has a number

  number_named : (i f : ℕ) → file_at n.tree i ≡ Some f → Named t.paths f
  number_named i f e = let at = of.numbers.only i f e in (cat.path_text at.names, at.stands)

  named_number : (f : ℕ) → Named t.paths f → (i : ℕ) × (file_at n.tree i ≡ Some f)
  named_number f at = by (map.get {R = path_cmp} (from_entries (walked v)) at.0) refl
    where
      by : (o : Option NodeBytes) → map.get {R = path_cmp} (from_entries (walked v)) at.0 ≡ o → (i : ℕ) × (file_at n.tree i ≡ Some f)
      by None e =
          let gone = no_content t.bytes (map.get t.paths at.0) (λ g there. held_has t tree g (inl (at.0, there))) (has at.0 ∙ ap (option_map path_node_of) e) in
          let none : None ≡ Some (node.File f) = sym gone ∙ at.1 in
          absurd cc
      by (Some w) e =
          let met = standing v.geometry v.image c is.catalog is.sound some at.0 w e in
          let there : map.get t.paths (cat.path_text met.names) ≡ Some (node.File f) = ap (map.get t.paths) (sym met.text) ∙ at.1 in
          (met.at, of.numbers.each met.at f (record { names = met.names; met = met.met; stands = there }))

  -- ---- who holds it

  known : (f : ℕ) → Named t.paths f → (i : ℕ) × (map.get n.held f ≡ Some (closed_file i))
  known f at = let number = named_number f at in (number.0, of.closed.each number.0 f number.1)

  known_named : (f : ℕ) (h : Holding) → map.get n.held f ≡ Some h → Named t.paths f
  known_named f h e = number_named h.inode f (of.closed.only f h e)

  linked : (f : ℕ) → is_linked n.held f ≡ list_any (is_node_of f) (map.values t.paths)
  linked f = alike _ _ (linked_at (map.get n.held f) refl) named_at
    where
      linked_at : (o : Option Holding) → map.get n.held f ≡ o → is_linked n.held f ≡ true → list_any (is_node_of f) (map.values t.paths) ≡ true
      linked_at None e l = let unlinked : false ≡ true = sym (ap (λ o. (unwrap_or o unheld).linked) e) ∙ l in absurd cc
      linked_at (Some h) e l = let at = known_named f h e in from_passes path_total path_same (is_node_of f) t.paths (at.0, node.File f, at.1, is_itself f)

      named_at : list_any (is_node_of f) (map.values t.paths) ≡ true → is_linked n.held f ≡ true
      named_at l =
          let at = passes path_total path_same (is_node_of f) t.paths l in
          ap (λ o. (unwrap_or o unheld).linked) (known f (at.0, at.2 ∙ ap Some (node_is f at.1 at.3))).1

  no_clients : (f : ℕ) → (holding_of n.held f).clients ≡ replicate 16 false
  no_clients f = by (map.get n.held f) refl
    where
      by : (o : Option Holding) → map.get n.held f ≡ o → (holding_of n.held f).clients ≡ replicate 16 false
      by None e = ap (λ o. (unwrap_or o unheld).clients) e
      by (Some h) e = ap (λ o. (unwrap_or o unheld).clients) (of.closed.each h.inode f (of.closed.only f h e))

  none_open : (client f : ℕ) → holds t.fds client f ≡ false
  none_open client f = false_from_ne_true _ (λ e. let at = holder t.fds client f e in let none : Some at.1 ≡ None = sym at.2 ∙ ap (λ fds. map.get fds (client, at.0)) closed ∙ get-empty fd_cmp (client, at.0) in cc)

  held : (f client : ℕ) → is_holder n.held f client ≡ holds t.fds client f
  held f client = ap (λ clients. get_or clients client false) (no_clients f) ∙ no_client 16 client ∙ sym (none_open client f)

  told : (f : ℕ) → is_some (map.get n.held f) ≡ is_some (map.get t.bytes f)
  told f = alike _ _ (λ e. let at = some_is (map.get n.held f) e in held_has t tree f (inl (known_named f at.0 at.1))) (λ e. by (has_held t tree f e))
    where
      by : Held t.paths t.fds f → is_some (map.get n.held f) ≡ true
      by (inl at) = ap is_some (known f at).1
      by (inr at) = let none : Some at.1 ≡ None = sym at.2 ∙ ap (λ fds. map.get fds at.0) closed ∙ get-empty fd_cmp at.0 in absurd cc

  inodes : AreInodesOf n.tree n.held
  inodes = record {
    inode = of.closed.only;
    live = λ i f e. ap is_some (of.closed.each i f e);
    own = λ i f e. ap (λ o. (unwrap_or o unheld).inode) (of.closed.each i f e);
  }

  pub is_part : IsNamesPart n t
  is_part = record {
    tree = tree;
    paths = names_stand sectors image v c n.tree t is tree has once of.dirs of.numbers;
    once = once;
    next = of.next;
    linked = linked;
    held = held;
    told = told;
    inodes = inodes;
  }
