-- The counts of a map of paths, as paths come and go.
use Rattle.std.proofs.Common.{◌≡◌, ◌≤◌, ℕ, ◌+◌, ◌-◌, List, Bool, true, false, cond, Some, None, ap, sym, refl, subst, ◌∙◌, arith, ltb, length, filter, ◌&&◌, not}
use Rattle.std.proofs.lemmas.List.Sums.{length-filter}
use Rattle.std.specs.Prelude.{is_some}
use Rattle.std.specs.Str.{bytes_eq}
use Rattle.std.specs.declared.cmp.Ordering.{Ordering}
use Rattle.std.specs.declared.cmp.Ordering.TheVariants.{Less, Equal, Greater}
use Rattle.std.specs.List.{count_by, list_any}
use Rattle.std.specs.BTreeMap.{is_at}
use Rattle.std.specs.Ordering.{is_eq, eq_by_cmp, nat_cmp}
use Rattle.std.specs.declared.alloc.Global.{Global}
use Rattle.std.specs.declared.vec.Vec.{Vec}
use Rattle.std.specs.Map.{keys_of, values_of}
use Rattle.std.specs.FinMap as map
use Rattle.std.specs.FinMap.{get-insert, get-remove, get-empty, entries}
use Rattle.ufs_model.specs.Order.{path_cmp}
use Rattle.ufs_model.specs.Directories.{is_entry_of, entry_count, has_entries}
use Rattle.ufs_model.specs.Paths.{IsWhole, parent_of}
use Rattle.ufs_model.specs.PosixTree.{Paths, is_node_of, root}
use Rattle.ufs_model.specs.declared.data.Node.{Node}
use Rattle.ufs_tree.specs.Counted.{CountsByFile, CountsByDir, count_at, file_count, dir_count, IsCountedByPath}
use Rattle.ufs_model.proofs.Facts.Orders.{path_total, path_same}
use Rattle.ufs_model.proofs.Facts.Rising.{entries-empty}
use Rattle.ufs_counts.proofs.CountLemmas.{any-count, count-insert, count-remove, count-replace, count-values, count-keys}

abbrev links_of : Paths → ℕ → ℕ
links_of paths f = count_by (is_node_of f) (map.values paths)

entries_counted : (paths : Paths) (d : List ℕ) → entry_count paths d ≡ count_by (λ (e : List ℕ × Node). is_entry_of d e.0) (entries paths)
entries_counted paths d = length-filter (is_entry_of d) (map.keys paths) ∙ count-keys (is_entry_of d) (entries paths)

links_counted : (paths : Paths) (f : ℕ) → links_of paths f ≡ count_by (λ (e : List ℕ × Node). is_node_of f e.1) (entries paths)
links_counted paths f = count-values (is_node_of f) (entries paths)

and_true : (b : Bool) → b ≡ (b && true)
and_true true = refl
and_true false = refl

-- a path that isn't the root is an entry of the directory above it, and of no other
pub entry_above : (path above dir : List ℕ) → above ≡ parent_of path → bytes_eq path root ≡ false → bytes_eq above dir ≡ is_entry_of dir path
entry_above path above dir is inner = ap (λ (p : List ℕ). bytes_eq p dir) is ∙ and_true (bytes_eq (parent_of path) dir) ∙ ap (λ b. bytes_eq (parent_of path) dir && not b) (sym inner)

-- no path yet
pub none_counted : (paths : Paths) (dirs : CountsByDir) (links : CountsByFile) → paths ≡ map.empty → ((test : Vec ℕ Global → Bool) → count_at test dirs ≡ 0) → ((test : ℕ → Bool) → count_at test links ≡ 0) → IsCountedByPath paths dirs links
none_counted paths dirs links p d l = record {
  whole = λ path stands. let no : false ≡ true = sym (ap is_some (ap (λ (m : Paths). map.get m path) p ∙ get-empty path_cmp path)) ∙ stands in cc;
  entries_are = λ dir. d (is_at (λ (k : Vec ℕ Global). path_cmp dir k.items)) ∙ sym (ap (λ (m : Paths). entry_count m dir) p ∙ ap (λ es. length (filter (is_entry_of dir) (keys_of es))) (entries-empty path_cmp Node));
  links_are = λ f. l (is_at (nat_cmp f)) ∙ sym (ap (λ (m : Paths). links_of m f) p ∙ ap (λ es. count_by (is_node_of f) (values_of es)) (entries-empty path_cmp Node));
}

module _ (paths : Paths) (dirs : CountsByDir) (links : CountsByFile) (counted : IsCountedByPath paths dirs links) where
  pub added_counted : (paths' : Paths) (dirs' : CountsByDir) (links' : CountsByFile) (path : List ℕ) (node : Node) → map.get paths path ≡ None → IsWhole path → paths' ≡ map.insert paths path node
      → ((d : List ℕ) → dir_count dirs' d ≡ dir_count dirs d + cond (is_entry_of d path) 1 0) → ((f : ℕ) → file_count links' f ≡ file_count links f + cond (is_node_of f node) 1 0) → IsCountedByPath paths' dirs' links'
  added_counted paths' dirs' links' path node none whole is d l = record {
    whole = λ q there. by q (path_cmp q path) refl (sym (ap is_some (ap (λ (m : Paths). map.get m q) is ∙ get-insert path_total paths path node q)) ∙ there);
    entries_are = λ dir.
        let test : List ℕ × Node → Bool = λ e. is_entry_of dir e.0 in
        let had = entries_counted paths dir in
        let has = ap (λ (m : Paths). entry_count m dir) is ∙ entries_counted (map.insert paths path node) dir in
        omega (arith, d dir, counted.entries_are dir, had, has, count-insert path_cmp test path_total paths path node none);
    links_are = λ f.
        let test : List ℕ × Node → Bool = λ e. is_node_of f e.1 in
        let had = links_counted paths f in
        let has = ap (λ (m : Paths). links_of m f) is ∙ links_counted (map.insert paths path node) f in
        omega (arith, l f, counted.links_are f, had, has, count-insert path_cmp test path_total paths path node none);
  }
    where
      by : (q : List ℕ) (r : Ordering) → path_cmp q path ≡ r → is_some (cond (is_eq r) (Some node) (map.get paths q)) ≡ true → IsWhole q
      by q Less e there = counted.whole q there
      by q Equal e there = subst IsWhole (sym (path_same q path e)) whole
      by q Greater e there = counted.whole q there

  pub replaced_counted : (paths' : Paths) (links' : CountsByFile) (path : List ℕ) (old node : Node) → map.get paths path ≡ Some old → paths' ≡ map.insert paths path node
      → ((f : ℕ) → file_count links' f + cond (is_node_of f old) 1 0 ≡ file_count links f + cond (is_node_of f node) 1 0) → IsCountedByPath paths' dirs links'
  replaced_counted paths' links' path old node there is l = record {
    whole = λ q stands. by q (path_cmp q path) refl (sym (ap is_some (ap (λ (m : Paths). map.get m q) is ∙ get-insert path_total paths path node q)) ∙ stands);
    entries_are = λ dir.
        let test : List ℕ × Node → Bool = λ e. is_entry_of dir e.0 in
        let had = entries_counted paths dir in
        let has = ap (λ (m : Paths). entry_count m dir) is ∙ entries_counted (map.insert paths path node) dir in
        omega (arith, counted.entries_are dir, had, has, count-replace path_cmp test path_total path_same paths path old node there);
    links_are = λ f.
        let test : List ℕ × Node → Bool = λ e. is_node_of f e.1 in
        let had = links_counted paths f in
        let has = ap (λ (m : Paths). links_of m f) is ∙ links_counted (map.insert paths path node) f in
        omega (arith, l f, counted.links_are f, had, has, count-replace path_cmp test path_total path_same paths path old node there);
  }
    where
      by : (q : List ℕ) (r : Ordering) → path_cmp q path ≡ r → is_some (cond (is_eq r) (Some node) (map.get paths q)) ≡ true → IsWhole q
      by q Less e there' = counted.whole q there'
      by q Equal e there' = subst IsWhole (sym (path_same q path e)) (counted.whole path (ap is_some there))
      by q Greater e there' = counted.whole q there'

  pub removed_counted : (paths' : Paths) (dirs' : CountsByDir) (links' : CountsByFile) (path : List ℕ) (node : Node) → map.get paths path ≡ Some node → paths' ≡ map.remove paths path
      → ((d : List ℕ) → dir_count dirs' d ≡ dir_count dirs d - cond (is_entry_of d path) 1 0) → ((f : ℕ) → file_count links' f ≡ file_count links f - cond (is_node_of f node) 1 0) → IsCountedByPath paths' dirs' links'
  removed_counted paths' dirs' links' path node there is d l = record {
    whole = λ q stands. counted.whole q (still (eq_by_cmp path_cmp q path) q (sym (ap is_some (ap (λ (m : Paths). map.get m q) is ∙ get-remove path_total paths path q)) ∙ stands));
    entries_are = λ dir.
        let test : List ℕ × Node → Bool = λ e. is_entry_of dir e.0 in
        let had = entries_counted paths dir in
        let has = ap (λ (m : Paths). entry_count m dir) is ∙ entries_counted (map.remove paths path) dir in
        omega (arith, d dir, counted.entries_are dir, had, has, count-remove path_cmp test path_total path_same paths path node there);
    links_are = λ f.
        let test : List ℕ × Node → Bool = λ e. is_node_of f e.1 in
        let had = links_counted paths f in
        let has = ap (λ (m : Paths). links_of m f) is ∙ links_counted (map.remove paths path) f in
        omega (arith, l f, counted.links_are f, had, has, count-remove path_cmp test path_total path_same paths path node there);
  }
    where
      still : (b : Bool) (q : List ℕ) → is_some (cond b None (map.get paths q)) ≡ true → is_some (map.get paths q) ≡ true
      still true q e = cc
      still false q e = e

  -- a directory has entries exactly where its count isn't 0
  pub entries_by_count : (dir : List ℕ) (n : ℕ) → n ≡ dir_count dirs dir → ltb 0 n ≡ has_entries paths dir
  entries_by_count dir n is = ap (ltb 0) (is ∙ counted.entries_are dir ∙ length-filter (is_entry_of dir) (map.keys paths)) ∙ sym (any-count (is_entry_of dir) (map.keys paths))

  -- and so is a file named
  pub named_by_count : (f n : ℕ) → n ≡ file_count links f → ltb 0 n ≡ list_any (is_node_of f) (map.values paths)
  named_by_count f n is = ap (ltb 0) (is ∙ counted.links_are f) ∙ sym (any-count (is_node_of f) (map.values paths))

  -- what stands at a path is counted
  pub old_counted : (path : List ℕ) (old : Node) (f : ℕ) → map.get paths path ≡ Some old → cond (is_node_of f old) 1 0 ≤ file_count links f
  old_counted path old f there =
      let test : List ℕ × Node → Bool = λ e. is_node_of f e.1 in
      omega (arith, counted.links_are f, links_counted paths f, count-remove path_cmp test path_total path_same paths path old there)
