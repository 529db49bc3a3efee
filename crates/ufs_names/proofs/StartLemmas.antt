-- The part of the tree of the root alone.
use Rattle.std.proofs.Common.{◌≡◌, ◌≢◌, ℕ, ◌⊎◌, inl, inr, List, [], ◌∷◌, false, Option, Some, None, is_some, unwrap_or, ap, sym, refl, ◌∙◌, subst}
use Rattle.std.proofs.lemmas.Bool.{false_from_ne_true}
use Rattle.std.specs.List.{list_any}
use Rattle.std.specs.Prelude.{slice_index_or}
use Rattle.std.specs.Ordering.{nat_cmp}
use Rattle.std.specs.FinMap as map
use Rattle.std.specs.FinMap.{get-empty}
use Rattle.ufs_model.specs.Order.{path_cmp, fd_cmp}
use Rattle.ufs_model.specs.Paths.{whole_path}
use Rattle.ufs_model.specs.PosixTree.{IsTree, root, root_alone, is_node_of}
use Rattle.ufs_model.specs.Touched.{holds}
use Rattle.ufs_model.specs.declared.data.Node.TheVariants.{Dir, File}
use Rattle.ufs_model.proofs.Facts.Lookups.{one_or_apart, inserted_here, inserted_else, passes}
use Rattle.ufs_model.proofs.Facts.Live.{node_is}
use Rattle.ufs_model.proofs.Facts.Held.{holder}
use Rattle.ufs_model.proofs.Facts.Orders.{path_total, path_same}
use Rattle.ufs_model.proofs.Facts.Pieces.{ArePlain, same_names}
use Rattle.ufs_model.proofs.Facts.Starts.{start_is_tree, root_is_tree, start_of-root}
use Rattle.ufs_model.specs.Start.{path_root}
use Rattle.ufs_dir_tree.specs.DirTable.{DirTable}
use Rattle.ufs_dir_tree.specs.DirCalls.{IsApart}
use Rattle.ufs_bitmap.specs.Blocks.{BlockSet}
use Rattle.ufs_bitmap.proofs.TakingLemmas.{apart_none, has-none}
use Rattle.ufs_files.specs.Files.{blocks_at}
use Rattle.ufs_files.proofs.MapLemmas.{blocks_none}
use Rattle.ufs_name_tree.specs.NameTable.{NameTable, file_at, node_at}
use Rattle.ufs_names.specs.NamesPart.{IsNamesPart, holding_of, unheld}
use Rattle.ufs_names.specs.declared.holding.Holding.{Holding}
use Rattle.ufs_bitmap.specs.Taking as taking
use Rattle.ufs_bitmap.specs.Taking.{has}
use Rattle.ufs_names.specs.Space.{AreApart}
use Rattle.ufs_names.proofs.SettleLemmas.{nobody}

no_file : (path : List ℕ) (f : ℕ) → map.get root_alone.paths path ≡ Some (File f) → ⊥
no_file path f at = by (one_or_apart path_total path_same path root)
  where
    by : (path ≡ root) ⊎ (path ≡ root → ⊥) → ⊥
    by (inl e) = let dir : Some (File f) ≡ Some Dir = sym at ∙ ap (map.get root_alone.paths) e ∙ inserted_here path_total path_same map.empty root Dir in cc
    by (inr not) = let none : Some (File f) ≡ None = sym at ∙ inserted_else path_total path_same map.empty root Dir path not ∙ get-empty path_cmp path in cc

none_named : (f : ℕ) → list_any (is_node_of f) (map.values root_alone.paths) ≡ false
none_named f = false_from_ne_true _ (λ e. let at = passes path_total path_same (is_node_of f) root_alone.paths e in no_file at.0 f (at.2 ∙ ap Some (node_is f at.1 at.3)))

none_open : (client f : ℕ) → holds map.empty client f ≡ false
none_open client f = false_from_ne_true _ (λ e. let at = holder map.empty client f e in let some : Some at.1 ≡ None = sym at.2 ∙ get-empty fd_cmp (client, at.0) in cc)

-- nothing is known of a file
unknown : (f : ℕ) → holding_of map.empty f ≡ unheld
unknown f = ap (λ (o : Option Holding). unwrap_or o unheld) (get-empty nat_cmp f)

module _ (d : NameTable) (top : node_at d [] ≡ Some Dir) (below : (names : List (List ℕ)) → names ≢ [] → node_at d names ≡ None) (bare : (i : ℕ) → file_at d i ≡ None) where
  stands : (names : List (List ℕ)) → ArePlain names → map.get root_alone.paths (whole_path names) ≡ node_at d names
  stands [] plain = inserted_here path_total path_same map.empty root Dir ∙ sym top
  stands (name ∷ names) plain =
      inserted_else path_total path_same map.empty root Dir (whole_path (name ∷ names)) (λ e. let same = same_names (name ∷ names) [] plain tt e in cc)
      ∙ get-empty path_cmp (whole_path (name ∷ names)) ∙ sym (below (name ∷ names) (λ e. cc))

  numbered_not : (i f : ℕ) → file_at d i ≡ Some f → ⊥
  numbered_not i f at = let none = bare i in let no : Some f ≡ None = sym at ∙ none in cc

  told_not : (f : ℕ) (h : Holding) → map.get {R = nat_cmp} map.empty f ≡ Some h → ⊥
  told_not f h at = let none = get-empty {X = Holding} nat_cmp f in let no : Some h ≡ None = sym at ∙ none in cc

  pub first_part : IsNamesPart (record { tree = d; held = map.empty; next = 0 }) root_alone
  first_part = record {
    tree = subst IsTree start_of-root (start_is_tree path_root root_is_tree);
    paths = λ names plain allowed. stands names plain;
    once = λ p q f at at'. absurd (no_file p f at);
    next = refl;
    linked = λ f. ap (λ (h : Holding). h.linked) (unknown f) ∙ sym (none_named f);
    held = λ f client. ap (λ (h : Holding). slice_index_or h.clients client false) (unknown f) ∙ nobody 16 client ∙ sym (none_open client f);
    told = λ f. ap is_some (get-empty nat_cmp f) ∙ sym (ap is_some (get-empty nat_cmp f));
    inodes = record {
      inode = λ f h at. absurd (told_not f h at);
      live = λ i f at. absurd (numbered_not i f at);
      own = λ i f at. absurd (numbered_not i f at);
    };
  }

-- without a file there is no block of one
pub first_apart : (d : DirTable) (pool : BlockSet) → IsApart d pool → AreApart d map.empty pool
first_apart d pool apart = record {
  dirs = apart;
  files = record {
    each = λ f. subst (taking.IsApart pool) (sym (none f)) (apart_none pool [] refl);
    pairwise = λ f g b not h. ap (λ bs. has bs b) (none g) ∙ has-none b;
  };
  mixed = λ i f b h. ap (λ bs. has bs b) (none f) ∙ has-none b;
}
  where
    none : (f : ℕ) → blocks_at map.empty f ≡ []
    none f = blocks_none map.empty f (get-empty nat_cmp f)
