-- The paths of a directory's entries: how they are spelled, and the order of their names.
use Rattle.std.proofs.Common.{◌≡◌, ℕ, List, [], ◌∷◌, ◌++◌, Bool, true, false, cond, not, ◌&&◌, ◌||◌, Some, is_some, filter, map, ap, sym, refl, ◌∙◌, append_assoc, bytes_eq}
use Rattle.std.proofs.lemmas.Bool.{and_parts, and_from}
use Rattle.std.proofs.lemmas.Cmp.{tied_itself}
use Rattle.std.specs.Cmp.{eq_by_cmp_equiv, nat_cmp_total}
use Rattle.std.specs.FinMap as fin
use Rattle.std.specs.FinMap.{find, is_sorted, get-entries}
use Rattle.std.specs.FinMap.Entries.{below_all}
use Rattle.std.specs.List.{list_any, AllByRecursion}
use Rattle.std.specs.Ordering.{eq_by_cmp, is_lt, ordering_then}
use Rattle.ufs_model.specs.Directories.{is_entry_of, last_name, entry_names}
use Rattle.ufs_model.proofs.Facts.Orders.{path_total}
use Rattle.ufs_model.proofs.Facts.Pieces.{ArePlain, bytes_same, same_bytes, same_names, components_plain, components_of, front_of, front_last, last, parent_is, plain_take, whole_path-append}
use Rattle.ufs_model.proofs.Facts.Rising.{entries-rise}
use Rattle.ufs_model.proofs.Facts.Walks.{no_names}
use Rattle.ufs_model.specs.Order.{path_cmp, names_rise}
use Rattle.ufs_model.specs.Paths.{IsWhole, components, whole_path, parent_of}
use Rattle.ufs_model.specs.PosixTree.{Paths, stands, root}
use Rattle.ufs_model.specs.declared.data.Node.{Node}

abbrev pub name_of : List ℕ → List ℕ
name_of path = last_name (components path)

abbrev pub entry_path : List (List ℕ) → List ℕ → List ℕ
entry_path names name = whole_path (names ++ name ∷ [])

last_is : (names : List (List ℕ)) (name : List ℕ) → last_name (names ++ name ∷ []) ≡ name
last_is [] name = refl
last_is (x ∷ []) name = refl
last_is (x ∷ next ∷ names) name = last_is (next ∷ names) name

-- ---- a directory's entries

module _ (names : List (List ℕ)) (plain : ArePlain names) where
  abbrev dir : List ℕ
  dir = whole_path names

  -- the path of a name in the directory is one of its entries, and has that name
  pub is_entry : (name : List ℕ) → ArePlain (names ++ name ∷ []) → is_entry_of dir (entry_path names name) ≡ true
  is_entry name all = and_from _ _ (bytes_same _ _ parent) (not_root (bytes_eq (entry_path names name) root) refl)
    where
      same : components (entry_path names name) ≡ names ++ name ∷ []
      same = components_of (names ++ name ∷ []) all

      parent : parent_of (entry_path names name) ≡ dir
      parent = parent_is (entry_path names name) (names ++ name ∷ []) same ∙ ap whole_path (front_last names name)

      not_root : (b : Bool) → bytes_eq (entry_path names name) root ≡ b → not (bytes_eq (entry_path names name) root) ≡ true
      not_root true e = absurd (no_names names name (sym same ∙ ap components (same_bytes (entry_path names name) root e)))
      not_root false e = ap not e

  pub name_of_entry : (name : List ℕ) → ArePlain (names ++ name ∷ []) → name_of (entry_path names name) ≡ name
  name_of_entry name all = ap last_name (components_of (names ++ name ∷ []) all) ∙ last_is names name

  -- each entry is the path of its name in the directory
  pub entry_is : (path : List ℕ) → IsWhole path → is_entry_of dir path ≡ true → components path ≡ names ++ name_of path ∷ []
  entry_is path whole e = by (components path) refl
    where
      both : (bytes_eq (parent_of path) dir ≡ true) × (not (bytes_eq path root) ≡ true)
      both = and_parts _ _ e

      by : (cs : List (List ℕ)) → components path ≡ cs → components path ≡ names ++ name_of path ∷ []
      by [] is =
          let at_root : bytes_eq path root ≡ true = bytes_same path root (sym whole.spelled ∙ ap whole_path is) in
          let no : not true ≡ true = ap not (sym at_root) ∙ both.1 in
          cc
      by (x ∷ xs) is =
          let end = last x xs in
          let split : components path ≡ front_of (components path) ++ end.0 ∷ [] = is ∙ end.1 ∙ ap (λ cs. front_of cs ++ end.0 ∷ []) (sym is) in
          let above : front_of (components path) ≡ names = same_names (front_of (components path)) names (plain_take _ (components path) (components_plain path)) plain (same_bytes (parent_of path) dir both.0) in
          let name : name_of path ≡ end.0 = ap last_name split ∙ last_is (front_of (components path)) end.0 in
          split ∙ (λ i. above i ++ sym name i ∷ [])

-- ---- the order of their names

-- what stands before the name in such a path
front : List (List ℕ) → List ℕ
front [] = 47 ∷ []
front (x ∷ xs) = whole_path (x ∷ xs) ++ 47 ∷ []

spelled : (names : List (List ℕ)) (name : List ℕ) → entry_path names name ≡ front names ++ name
unfolding front
spelled [] name = refl
spelled (x ∷ xs) name = whole_path-append x xs name [] ∙ sym (append_assoc (whole_path (x ∷ xs)) (47 ∷ []) name)

-- the same bytes in front make no difference
cmp-front : (f a b : List ℕ) → path_cmp (f ++ a) (f ++ b) ≡ path_cmp a b
cmp-front [] a b = refl
cmp-front (x ∷ f) a b = ap (λ r. ordering_then r (path_cmp (f ++ a) (f ++ b))) (tied_itself nat_cmp_total x) ∙ cmp-front f a b

cmp_entries : (names : List (List ℕ)) (p q a b : List ℕ) → p ≡ entry_path names a → q ≡ entry_path names b → path_cmp p q ≡ path_cmp a b
cmp_entries names p q a b is is' = (λ i. path_cmp ((is ∙ spelled names a) i) ((is' ∙ spelled names b) i)) ∙ cmp-front (front names) a b

abbrev Entries : Type 0
Entries = List (List ℕ × Node)

-- what holds of each key holds of each entry
each_key : (P : List ℕ → Type 0) (es : Entries) → ((q : List ℕ) → is_some (find path_cmp q es) ≡ true → P q) → AllByRecursion (λ (e : List ℕ × Node). P e.0) es
each_key P [] h = tt
each_key P (e ∷ es) h = (
  h e.0 (ap (λ b. is_some (cond b (Some e.1) (find path_cmp e.0 es))) ((eq_by_cmp_equiv path_total).refl e.0)),
  each_key P es (λ q there. h q (later q (eq_by_cmp path_cmp q e.0) there)),
)
  where
    later : (q : List ℕ) (b : Bool) → is_some (find path_cmp q es) ≡ true → is_some (cond b (Some e.1) (find path_cmp q es)) ≡ true
    later q true there = refl
    later q false there = there

module _ (names : List (List ℕ)) (plain : ArePlain names) where
  abbrev names_among : Entries → List (List ℕ)
  names_among es = map name_of (filter (is_entry_of (whole_path names)) (map (λ e. e.0) es))

  abbrev keyed : List (List ℕ) → List (List ℕ × Unit {0})
  keyed ns = map {B = List ℕ × Unit {0}} (λ name. (name, tt)) ns

  path_of : (path : List ℕ) → IsWhole path → is_entry_of (whole_path names) path ≡ true → path ≡ entry_path names (name_of path)
  path_of path whole e = sym whole.spelled ∙ ap whole_path (entry_is names plain path whole e)

  name_below : (path : List ℕ) (es : Entries) → IsWhole path → is_entry_of (whole_path names) path ≡ true → AllByRecursion (λ (e : List ℕ × Node). IsWhole e.0) es → below_all path_cmp path es ≡ true
      → below_all path_cmp (name_of path) (keyed (names_among es)) ≡ true
  name_below path [] whole is each below = refl
  name_below path (e ∷ es) whole is each below =
      let both = and_parts _ _ below in
      by (is_entry_of (whole_path names) e.0) refl both.0 (name_below path es whole is each.1 both.1)
    where
      by : (b : Bool) → is_entry_of (whole_path names) e.0 ≡ b → is_lt (path_cmp path e.0) ≡ true → below_all path_cmp (name_of path) (keyed (names_among es)) ≡ true
          → below_all path_cmp (name_of path) (keyed (map name_of (cond b (e.0 ∷ filter (is_entry_of (whole_path names)) (map (λ e. e.0) es)) (filter (is_entry_of (whole_path names)) (map (λ e. e.0) es))))) ≡ true
      by true at less rest = and_from _ _ (ap is_lt (sym (cmp_entries names path e.0 (name_of path) (name_of e.0) (path_of path whole is) (path_of e.0 each.0 at))) ∙ less) rest
      by false at less rest = rest

  names_in_order : (es : Entries) → AllByRecursion (λ (e : List ℕ × Node). IsWhole e.0) es → is_sorted path_cmp es ≡ true → names_rise (names_among es) ≡ true
  names_in_order [] each sorted = refl
  names_in_order (e ∷ es) each sorted =
      let both = and_parts _ _ sorted in
      by (is_entry_of (whole_path names) e.0) refl both.0 (names_in_order es each.1 both.1)
    where
      by : (b : Bool) → is_entry_of (whole_path names) e.0 ≡ b → below_all path_cmp e.0 es ≡ true → names_rise (names_among es) ≡ true
          → names_rise (map name_of (cond b (e.0 ∷ filter (is_entry_of (whole_path names)) (map (λ e. e.0) es)) (filter (is_entry_of (whole_path names)) (map (λ e. e.0) es)))) ≡ true
      by true at below rest = and_from _ _ (name_below e.0 es each.0 at each.1 below) rest
      by false at below rest = rest

  pub names_rising : (paths : Paths) → ((path : List ℕ) → stands paths path ≡ true → IsWhole path) → names_rise (entry_names paths (whole_path names)) ≡ true
  names_rising paths whole = names_in_order (fin.entries paths) (each_key IsWhole (fin.entries paths) (λ q there. whole q (ap is_some (get-entries paths q) ∙ there))) (entries-rise paths)

-- ---- a name among those of a directory's entries

pub any_mapped : (f : List ℕ → List ℕ) (p : List ℕ → Bool) (name : List ℕ) (ks : List (List ℕ)) → list_any (bytes_eq name) (map f (filter p ks)) ≡ list_any (λ k. p k && bytes_eq name (f k)) ks
any_mapped f p name [] = refl
any_mapped f p name (k ∷ ks) = by (p k) (any_mapped f p name ks)
  where
    by : (b : Bool) → list_any (bytes_eq name) (map f (filter p ks)) ≡ list_any (λ k. p k && bytes_eq name (f k)) ks → list_any (bytes_eq name) (map f (cond b (k ∷ filter p ks) (filter p ks))) ≡ ((b && bytes_eq name (f k)) || list_any (λ k. p k && bytes_eq name (f k)) ks)
    by true rest = ap (λ b. bytes_eq name (f k) || b) rest
    by false rest = rest
