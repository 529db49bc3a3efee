-- The entries of a directory: where they stand among all paths, and the order of their names.
use Rattle.std.proofs.Common.{◌≡◌, ℕ, List, [], ◌∷◌, ◌++◌, Bool, true, false, cond, not, filter, map, All, ap, sym, refl, subst, ◌∙◌, append_assoc}
use Rattle.std.proofs.lemmas.Bool.{and_parts, and_from}
use Rattle.std.proofs.lemmas.List.Elements.{All-from_recursion}
use Rattle.std.proofs.Math.Seq.{take-append_seam}
use Rattle.std.specs.Prelude.{is_some}
use Rattle.std.specs.List.{AllByRecursion}
use Rattle.std.specs.Map.{keys_of}
use Rattle.std.specs.Ordering.{nat_cmp, is_lt, ordering_then}
use Rattle.std.specs.Cmp.{eq_by_cmp_equiv, nat_cmp_total}
use Rattle.std.specs.Str.{bytes_eq}
use Rattle.std.specs.FinMap as fin
use Rattle.std.specs.FinMap.{find, is_sorted, get-entries}
use Rattle.std.specs.FinMap.Entries.{below_all}
use Rattle.ufs_model.specs.Directories.{is_entry_of, last_name, starts_with, entry_names}
use Rattle.ufs_model.specs.Order.{path_cmp, names_rise}
use Rattle.ufs_model.specs.Paths.{IsWhole, components, parent_of}
use Rattle.ufs_model.specs.PosixTree.{Paths, stands, root}
use Rattle.ufs_model.specs.declared.data.Node.{Node}
use Rattle.ufs_tree.specs.Below.{front, names_among}
use Rattle.ufs_model.proofs.Facts.Lookups.{tied}
use Rattle.ufs_model.proofs.Facts.Orders.{path_total}
use Rattle.ufs_model.proofs.Facts.Pieces.{same_bytes, bytes_same}
use Rattle.ufs_model.proofs.Facts.Rising.{entries-rise}
use Rattle.ufs_tree.proofs.RisingLemmas.{rising-filter, found_there}
use Rattle.ufs_tree.proofs.ListLemmas.{all_filter}
use Rattle.ufs_tree.proofs.PathLemmas.{path_parts, other_path}

abbrev pub Nodes : Type 0
Nodes = List (List ℕ × Node)

-- ---- all of a list

each_found : {X : Type 0} (P : List ℕ → Type 0) (front es : List (List ℕ × X)) → ((q : List ℕ) → is_some (find path_cmp q (front ++ es)) ≡ true → P q) → AllByRecursion (λ (e : List ℕ × X). P e.0) es
each_found P front [] h = tt
each_found {X} P front (e ∷ es) h = (
  h e.0 (found_there path_cmp path_total front e es),
  each_found P (front ++ e ∷ []) es (λ q there. h q (ap (λ (all : List (List ℕ × X)). is_some (find path_cmp q all)) (sym (append_assoc front (e ∷ []) es)) ∙ there)),
)

-- what holds of each path that stands holds of each entry
pub each_standing : (P : List ℕ → Type 0) (m : Paths) → ((q : List ℕ) → stands m q ≡ true → P q) → AllByRecursion (λ (e : List ℕ × Node). P e.0) (fin.entries m)
each_standing P m h = each_found P [] (fin.entries m) (λ q there. h q (ap is_some (get-entries m q) ∙ there))

-- ---- what starts alike

pub starts : (f r : List ℕ) → starts_with f (f ++ r) ≡ true
starts f r = ap (λ l. bytes_eq l f) (take-append_seam f r) ∙ bytes_same f f refl

-- the same bytes in front make no difference to the order
pub cmp-front : (f a b : List ℕ) → path_cmp (f ++ a) (f ++ b) ≡ path_cmp a b
cmp-front [] a b = refl
cmp-front (x ∷ f) a b = ap (λ r. ordering_then r (path_cmp (f ++ a) (f ++ b))) (tied (nat_cmp x x) ((eq_by_cmp_equiv nat_cmp_total).refl x)) ∙ cmp-front f a b

-- ---- entries of a directory

abbrev pub name_of : List ℕ → List ℕ
name_of path = last_name (components path)

not_root : (path : List ℕ) → (not (bytes_eq path root)) ≡ true → path ≡ root → ⊥
not_root path e is = by (bytes_eq path root) e refl
  where
    by : (b : Bool) → not b ≡ true → bytes_eq path root ≡ b → ⊥
    by true e f = let no : false ≡ true = e in cc
    by false e f = other_path path root f is refl

pub entry_is : (dir path : List ℕ) → IsWhole path → is_entry_of dir path ≡ true → path ≡ (front dir ++ 47 ∷ []) ++ name_of path
entry_is dir path whole e =
    let both = and_parts _ _ e in
    (path_parts path whole (not_root path both.1)).0
    ∙ ap (λ d. front d ++ 47 ∷ name_of path) (same_bytes (parent_of path) dir both.0)
    ∙ sym (append_assoc (front dir) (47 ∷ []) (name_of path))

entry_starts : (dir path : List ℕ) → IsWhole path → is_entry_of dir path ≡ true → starts_with (front dir ++ 47 ∷ []) path ≡ true
entry_starts dir path whole e = ap (starts_with (front dir ++ 47 ∷ [])) (entry_is dir path whole e) ∙ starts (front dir ++ 47 ∷ []) (name_of path)

-- all entries of the directory are below it
pub entries_below : (dir : List ℕ) (es : Nodes) → AllByRecursion (λ (e : List ℕ × Node). IsWhole e.0) es
    → filter (is_entry_of dir) (keys_of (filter (λ (e : List ℕ × Node). starts_with (front dir ++ 47 ∷ []) e.0) es)) ≡ filter (is_entry_of dir) (keys_of es)
entries_below dir [] whole = refl
entries_below dir (e ∷ es) whole =
    by (starts_with (front dir ++ 47 ∷ []) e.0) (is_entry_of dir e.0) refl refl (entries_below dir es whole.1)
  where
    by : (b c : Bool) → starts_with (front dir ++ 47 ∷ []) e.0 ≡ b → is_entry_of dir e.0 ≡ c
        → filter (is_entry_of dir) (keys_of (filter (λ (e : List ℕ × Node). starts_with (front dir ++ 47 ∷ []) e.0) es)) ≡ filter (is_entry_of dir) (keys_of es)
        → filter (is_entry_of dir) (keys_of (cond b (e ∷ filter (λ (e : List ℕ × Node). starts_with (front dir ++ 47 ∷ []) e.0) es) (filter (λ (e : List ℕ × Node). starts_with (front dir ++ 47 ∷ []) e.0) es))) ≡ cond c (e.0 ∷ filter (is_entry_of dir) (keys_of es)) (filter (is_entry_of dir) (keys_of es))
    by true true p q rest = ap (λ t. cond t (e.0 ∷ filter (is_entry_of dir) (keys_of (filter (λ (e : List ℕ × Node). starts_with (front dir ++ 47 ∷ []) e.0) es))) (filter (is_entry_of dir) (keys_of (filter (λ (e : List ℕ × Node). starts_with (front dir ++ 47 ∷ []) e.0) es)))) q ∙ ap (λ ks. e.0 ∷ ks) rest
    by true false p q rest = ap (λ t. cond t (e.0 ∷ filter (is_entry_of dir) (keys_of (filter (λ (e : List ℕ × Node). starts_with (front dir ++ 47 ∷ []) e.0) es))) (filter (is_entry_of dir) (keys_of (filter (λ (e : List ℕ × Node). starts_with (front dir ++ 47 ∷ []) e.0) es)))) q ∙ rest
    by false true p q rest = let no : false ≡ true = sym p ∙ entry_starts dir e.0 whole.0 q in cc
    by false false p q rest = rest

-- ---- the order of their names

abbrev alone : List ℕ → List ℕ × Unit {0}
alone name = (name, tt)

abbrev ranked : Nodes → List ℕ → List (List ℕ × Unit {0})
ranked es dir = map {B = List ℕ × Unit {0}} alone (names_among es dir)

name_below : (dir k : List ℕ) (es : Nodes) → IsWhole k → is_entry_of dir k ≡ true → AllByRecursion (λ (e : List ℕ × Node). IsWhole e.0) es → below_all path_cmp k es ≡ true → below_all path_cmp (name_of k) (ranked es dir) ≡ true
name_below dir k [] wk ek whole below = refl
name_below dir k (e ∷ es) wk ek whole below =
    let both = and_parts _ _ below in
    by (is_entry_of dir e.0) refl both.0 (name_below dir k es wk ek whole.1 both.1)
  where
    by : (b : Bool) → is_entry_of dir e.0 ≡ b → is_lt (path_cmp k e.0) ≡ true → below_all path_cmp (name_of k) (ranked es dir) ≡ true
        → below_all path_cmp (name_of k) (map {B = List ℕ × Unit {0}} alone (map name_of (cond b (e.0 ∷ filter (is_entry_of dir) (keys_of es)) (filter (is_entry_of dir) (keys_of es))))) ≡ true
    by true ee lt rest =
        let same = (λ i. path_cmp (entry_is dir k wk ek i) (entry_is dir e.0 whole.0 ee i)) ∙ cmp-front (front dir ++ 47 ∷ []) (name_of k) (name_of e.0) in
        and_from _ _ (ap is_lt (sym same) ∙ lt) rest
    by false ee lt rest = rest

pub names_in_order : (dir : List ℕ) (es : Nodes) → AllByRecursion (λ (e : List ℕ × Node). IsWhole e.0) es → is_sorted path_cmp es ≡ true → names_rise (names_among es dir) ≡ true
names_in_order dir [] whole sorted = refl
names_in_order dir (e ∷ es) whole sorted =
    let both = and_parts _ _ sorted in
    by (is_entry_of dir e.0) refl both.0 (names_in_order dir es whole.1 both.1)
  where
    by : (b : Bool) → is_entry_of dir e.0 ≡ b → below_all path_cmp e.0 es ≡ true → names_rise (names_among es dir) ≡ true
        → names_rise (map name_of (cond b (e.0 ∷ filter (is_entry_of dir) (keys_of es)) (filter (is_entry_of dir) (keys_of es)))) ≡ true
    by true ee below rest = and_from _ _ (name_below dir e.0 es whole.0 ee whole.1 below) rest
    by false ee below rest = rest

-- what lies below a directory, of all paths
module _ (m : Paths) (dir : List ℕ) (es : Nodes) (whole : (q : List ℕ) → stands m q ≡ true → IsWhole q) (is : es ≡ filter (λ (e : List ℕ × Node). starts_with (front dir ++ 47 ∷ []) e.0) (fin.entries m)) where
  each_whole : AllByRecursion (λ (e : List ℕ × Node). IsWhole e.0) es
  each_whole =
      subst (λ (l : Nodes). AllByRecursion (λ (e : List ℕ × Node). IsWhole e.0) l) (sym is)
      (all_filter (λ (e : List ℕ × Node). IsWhole e.0) (λ (e : List ℕ × Node). starts_with (front dir ++ 47 ∷ []) e.0) (fin.entries m) (each_standing IsWhole m whole))

  pub all_whole : All (λ (e : List ℕ × Node). IsWhole e.0) es
  all_whole = All-from_recursion (λ (e : List ℕ × Node). IsWhole e.0) es each_whole

  pub names_rising : names_rise (names_among es dir) ≡ true
  names_rising =
      names_in_order dir es each_whole
      (ap (is_sorted path_cmp) is ∙ rising-filter path_cmp (λ (e : List ℕ × Node). starts_with (front dir ++ 47 ∷ []) e.0) (fin.entries m) (entries-rise m))

  pub names_are : names_among es dir ≡ entry_names m dir
  names_are = ap (λ (l : Nodes). names_among l dir) is ∙ ap (map name_of) (entries_below dir (fin.entries m) (each_standing IsWhole m whole))

pub from_front : (es found : Nodes) (m : Paths) (f dir : List ℕ) → es ≡ found → found ≡ filter (λ (e : List ℕ × Node). starts_with (f ++ 47 ∷ []) e.0) (fin.entries m) → f ≡ front dir
    → es ≡ filter (λ (e : List ℕ × Node). starts_with (front dir ++ 47 ∷ []) e.0) (fin.entries m)
from_front es found m f dir same is at = same ∙ is ∙ ap (λ g. filter (λ (e : List ℕ × Node). starts_with (g ++ 47 ∷ []) e.0) (fin.entries m)) at
