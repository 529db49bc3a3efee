-- Paths of which each is placed form a tree, and each path of a tree is placed.
use Rattle.std.proofs.Common.{◌≡◌, ◌≢◌, ◌⊎◌, inl, inr, ℕ, zero, suc, ◌+◌, ◌≤◌, List, [], ◌∷◌, ◌++◌, Bool, true, false, cond, Some, None, Option, is_some, length, ap, sym, refl, subst, ◌∙◌, arith, length-append, slice_get, get_or, ◌<◌}
use Rattle.std.proofs.lemmas.Bool.{cases_lt}
use Rattle.std.proofs.lemmas.Option.{get_or_from_slice_get, slice_get_past}
use Rattle.std.specs.FinMap as map
use Rattle.std.specs.FinMap.{find, get-entries, get-from_entries, same_map}
use Rattle.std.specs.Ordering.{eq_by_cmp, is_eq}
use Rattle.std.specs.declared.cmp.Ordering.{Ordering}
use Rattle.std.specs.declared.cmp.Ordering.TheVariants.{Less, Equal, Greater}
use Rattle.std.specs.Cmp.{tied_itself}
use Rattle.std.specs.Str.{bytes_eq}
use Rattle.ufs_base.specs.Choices.{first_of}
use Rattle.ufs_model.specs.Directories.{last_name}
use Rattle.ufs_model.specs.Order.{path_cmp}
use Rattle.ufs_model.specs.PathEntries.{nodes_of, pairs_of}
use Rattle.ufs_model.specs.Paths.{IsWhole, components, components_refusal, component_refusal, parent_of, whole_path}
use Rattle.ufs_model.specs.PosixTree.{root}
use Rattle.ufs_model.specs.Start.{PathNodes, IsPathTree, is_path_dir}
use Rattle.ufs_model.specs.declared.data.Errno.{Errno}
use Rattle.ufs_model.specs.declared.data.PathEntry.{PathEntry}
use Rattle.ufs_model.specs.declared.data.PathNode.{PathNode}
use Rattle.ufs_model.specs.declared.data.PathNode.TheVariants as path_node
use Rattle.ufs_model.proofs.Facts.Allowed.{allowed_append, first_none}
use Rattle.ufs_model.proofs.Facts.Orders.{path_total, path_same}
use Rattle.ufs_model.proofs.Facts.Pieces.{begins, bytes_same, components_cut, front_last, one_component, parent_is, same_bytes, whole_path-append}
use Rattle.ufs_tree.specs.Below.{front}
use Rattle.ufs_tree.proofs.PathLemmas.{path_parts}
use Rattle.ufs_image_paths.specs.Placed.{ArePlaced, IsBelowDir, IsPathName, IsPlaced, dir_above}

-- ---- a name below a directory

-- The path is whole, and that of the directory stands above it.
abbrev Stands : List ℕ → List ℕ → Type 0
Stands path dir = IsWhole path × (parent_of path ≡ dir)

named : (path : List ℕ) (names : List (List ℕ)) (name : List ℕ) → components path ≡ names ++ name ∷ [] → whole_path (names ++ name ∷ []) ≡ path → components_refusal names ≡ None → component_refusal name ≡ None → Stands path (whole_path names)
named path names name are spelled allowed one = (
  record {
    spelled = ap whole_path are ∙ spelled;
    allowed = ap components_refusal are ∙ allowed_append names (name ∷ []) allowed (ap (λ (o : Option Errno). first_of o None) one);
  },
  parent_is path (names ++ name ∷ []) are ∙ ap whole_path (front_last names name),
)

pub stands_below : (upper name : List ℕ) → upper ≢ root → IsPathName name → IsWhole (dir_above upper) → Stands (upper ++ 47 ∷ name) (dir_above upper)
stands_below [] name other is whole = named (47 ∷ name) [] name (components_cut [] name ∙ one_component name is.plain) refl refl is.allowed
stands_below (b ∷ bs) name other is whole = by (components dir) refl
  where
    dir : List ℕ
    dir = b ∷ bs

    by : (names : List (List ℕ)) → components dir ≡ names → Stands (dir ++ 47 ∷ name) dir
    by [] e = absurd (other (sym whole.spelled ∙ ap whole_path e))
    by (x ∷ xs) e =
        let spelled : whole_path (x ∷ xs) ≡ dir = sym (ap whole_path e) ∙ whole.spelled in
        subst (Stands (dir ++ 47 ∷ name)) spelled
        (named (dir ++ 47 ∷ name) (x ∷ xs) name (components_cut dir name ∙ (λ i. e i ++ one_component name is.plain i))
        (whole_path-append x xs name [] ∙ ap (λ front. front ++ 47 ∷ name) spelled) (sym (ap components_refusal e) ∙ whole.allowed) is.allowed)

-- the directory's path is shorter
pub shorter : (upper name : List ℕ) → IsPathName name → length (dir_above upper) + 1 ≤ length (upper ++ 47 ∷ name)
shorter upper [] is = let no : false ≡ true = is.plain.some in cc
shorter [] (c ∷ cs) is = omega arith
shorter (b ∷ bs) (c ∷ cs) is = omega (arith, length-append (b ∷ bs) (47 ∷ c ∷ cs))

dir_there : (node : Option PathNode) → is_path_dir node ≡ true → is_some node ≡ true
dir_there None e = e
dir_there (Some node) e = refl

module _ (nodes : PathNodes) where
  abbrev there : List ℕ → Bool
  there path = is_some (map.get nodes path)

  abbrev dir_at : List ℕ → Bool
  dir_at path = is_path_dir (map.get nodes path)

  -- ---- from what is placed

  module _ (root_dir : dir_at root ≡ true) (placed : (path : List ℕ) → there path ≡ true → IsPlaced nodes path) where
    abbrev Told : List ℕ → Type 0
    Told path = IsWhole path × (dir_at (parent_of path) ≡ true)

    root_told : Told root
    root_told = (record { spelled = refl; allowed = refl }, root_dir)

    -- by what is shorter
    told_by : (path : List ℕ) → ((dir : List ℕ) → length dir + 1 ≤ length path → there dir ≡ true → Told dir) → IsPlaced nodes path → Told path
    told_by path deeper (inl is) = subst Told (sym is) root_told
    told_by path deeper (inr (upper, name, is, other, named, dir)) =
        let above : Told (dir_above upper) = deeper (dir_above upper) (omega (arith, shorter upper name named, ap length is)) (dir_there _ dir) in
        let stands = stands_below upper name other named above.0 in
        subst Told (sym is) (stands.0, ap dir_at stands.1 ∙ dir)

    told_to : (n : ℕ) (path : List ℕ) → length path ≤ n → there path ≡ true → Told path
    told_to zero path few h = told_by path (λ dir less t. absurd (omega (arith, less, few))) (placed path h)
    told_to (suc n) path few h = told_by path (λ dir less t. told_to n dir (omega (arith, less, few)) t) (placed path h)

    pub is_tree : IsPathTree nodes
    is_tree = record {
      root_is_dir = root_dir;
      whole = λ path h. (told_to (length path) path (omega arith) h).0;
      parents = λ path h. (told_to (length path) path (omega arith) h).1;
    }

  -- ---- of a tree

  module _ (tree : IsPathTree nodes) where
    last_allowed : (x : List ℕ) (xs : List (List ℕ)) → components_refusal (x ∷ xs) ≡ None → component_refusal (last_name (x ∷ xs)) ≡ None
    last_allowed x [] h = (first_none (component_refusal x) None h).0
    last_allowed x (y ∷ ys) h = last_allowed y ys (first_none (component_refusal x) (components_refusal (y ∷ ys)) h).1

    name_allowed : (path : List ℕ) (names : List (List ℕ)) → components path ≡ names → IsWhole path → path ≢ root → component_refusal (last_name names) ≡ None
    name_allowed path [] e whole other = absurd (other (sym whole.spelled ∙ ap whole_path e))
    name_allowed path (x ∷ xs) e whole other = last_allowed x xs (sym (ap components_refusal e) ∙ whole.allowed)

    some_path : (names : List (List ℕ)) → dir_above (whole_path names) ≡ whole_path names
    some_path [] = refl
    some_path (x ∷ xs) = let is = begins x xs in ap dir_above is.1 ∙ sym is.1

    front_other : (dir : List ℕ) (b : Bool) → bytes_eq dir root ≡ b → cond b [] dir ≢ root
    front_other dir true e is = absurd (let no : 0 ≡ 1 = ap length is in omega (arith, no))
    front_other dir false e is = let no : false ≡ true = sym e ∙ bytes_same dir root is in cc

    front_dir : (dir : List ℕ) (b : Bool) → bytes_eq dir root ≡ b → dir_above dir ≡ dir → dir_above (cond b [] dir) ≡ dir
    front_dir dir true e is = sym (same_bytes dir root e)
    front_dir dir false e is = is

    pub placed_in : (path : List ℕ) → there path ≡ true → IsPlaced nodes path
    placed_in path h = by (bytes_eq path root) refl
      where
        by : (b : Bool) → bytes_eq path root ≡ b → IsPlaced nodes path
        by true e = inl (same_bytes path root e)
        by false e =
            let other : path ≢ root = λ is. let no : false ≡ true = sym e ∙ bytes_same path root is in cc in
            let whole = tree.whole path h in
            let parts = path_parts path whole other in
            let dir = parent_of path in
            inr (
              front dir,
              last_name (components path),
              parts.0,
              front_other dir (bytes_eq dir root) refl,
              record { plain = parts.1; allowed = name_allowed path (components path) refl whole other },
              ap dir_at (front_dir dir (bytes_eq dir root) refl (some_path _)) ∙ tree.parents path h,
            )

-- ---- the entries of paths

equal : (r : Ordering) → is_eq r ≡ true → r ≡ Equal
equal Less e = cc
equal Equal e = refl
equal Greater e = cc

found_at : (es : List PathEntry) (q : List ℕ) → is_some (find path_cmp q (pairs_of es)) ≡ true → (i : ℕ) × (e : PathEntry) × (slice_get es i ≡ Some e) × (e.path ≡ q)
found_at [] q h = let no : false ≡ true = h in cc
found_at (e ∷ es) q h = by (eq_by_cmp path_cmp q e.path) refl (found_at es q) h
  where
    by : (b : Bool) → eq_by_cmp path_cmp q e.path ≡ b → (is_some (find path_cmp q (pairs_of es)) ≡ true → (i : ℕ) × (f : PathEntry) × (slice_get es i ≡ Some f) × (f.path ≡ q)) → is_some (cond b (Some e.node) (find path_cmp q (pairs_of es))) ≡ true → (i : ℕ) × (f : PathEntry) × (slice_get (e ∷ es) i ≡ Some f) × (f.path ≡ q)
    by true same later h = (0, e, refl, sym (path_same q e.path (equal _ same)))
    by false same later h = let more = later h in (suc more.0, more.1, more.2, more.3)

entry_there : (es : List PathEntry) (i : ℕ) (e : PathEntry) → slice_get es i ≡ Some e → is_some (find path_cmp e.path (pairs_of es)) ≡ true
entry_there [] i e at = cc
entry_there (x ∷ es) zero e at =
    let is : x ≡ e = ap (λ (o : Option PathEntry). cond_some x o) at in
    ap (λ r. is_some (cond (is_eq r) (Some x.node) (find path_cmp e.path (pairs_of es)))) (ap (λ (y : PathEntry). path_cmp e.path y.path) is ∙ tied_itself path_total e.path)
  where
    cond_some : PathEntry → Option PathEntry → PathEntry
    cond_some d None = d
    cond_some d (Some y) = y
entry_there (x ∷ es) (suc i) e at = by (eq_by_cmp path_cmp e.path x.path) (entry_there es i e at)
  where
    by : (b : Bool) → is_some (find path_cmp e.path (pairs_of es)) ≡ true → is_some (cond b (Some x.node) (find path_cmp e.path (pairs_of es))) ≡ true
    by true h = refl
    by false h = h

pub looked_up : (es : List PathEntry) (q : List ℕ) → map.get (nodes_of es) q ≡ find path_cmp q (pairs_of es)
looked_up es q = get-from_entries path_total (pairs_of es) q

-- a map is that of its entries
pub entries_again : (es : List PathEntry) (nodes : PathNodes) → pairs_of es ≡ map.entries nodes → nodes_of es ≡ nodes
entries_again es nodes is = same_map path_total path_same (nodes_of es) nodes (λ q. looked_up es q ∙ ap (find path_cmp q) is ∙ sym (get-entries nodes q))

pub tree_of_placed : (es : List PathEntry) → is_path_dir (map.get (nodes_of es) root) ≡ true → ArePlaced es → IsPathTree (nodes_of es)
tree_of_placed es root_dir placed = is_tree (nodes_of es) root_dir
    (λ path h.
    let at = found_at es path (sym (ap is_some (looked_up es path)) ∙ h) in
    subst (IsPlaced (nodes_of es)) at.3 (placed at.0 at.1 at.2))

pub placed_of_tree : (es : List PathEntry) → IsPathTree (nodes_of es) → ArePlaced es
placed_of_tree es tree i e at = placed_in (nodes_of es) tree e.path (ap is_some (looked_up es e.path) ∙ entry_there es i e at)

-- ---- entry by entry

-- what holds of the entry that was read
pub read_at : (es : List PathEntry) (i k : ℕ) (r e : PathEntry) → i ≡ k → slice_get es k ≡ Some e → IsPlaced (nodes_of es) (get_or es i r).path → IsPlaced (nodes_of es) e.path
read_at es i k r e same at placed = subst (λ (x : PathEntry). IsPlaced (nodes_of es) x.path) (get_or_from_slice_get es i e r (ap (slice_get es) same ∙ at)) placed

pub placed_all : (es : List PathEntry) (n : ℕ) → length es ≤ n → ((k : ℕ) (e : PathEntry) → k < n → slice_get es k ≡ Some e → IsPlaced (nodes_of es) e.path) → ArePlaced es
placed_all es n all each k e at = elim (cases_lt k (length es)) [
  | inl below ↦ each k e (omega (arith, below, all)) at
  | inr past ↦ let none : None ≡ Some e = sym (slice_get_past es k past) ∙ at in cc
]
