-- Paths form a tree after one has a new name, and what stood at the old name stands at the new one; and the two names
-- lie apart.
use Rattle.std.proofs.Common.{◌≡◌, ℕ, ◌-◌, ◌⊎◌, inl, inr, List, [], ◌∷◌, ◌++◌, true, false, length, Some, None, is_some, ap, sym, refl, subst, ◌∙◌, append_assoc, arith, length-append}
use Rattle.std.proofs.lemmas.List.{append-nil, append_cancel_left}
use Rattle.std.proofs.lemmas.Bool.{false_from_ne_true}
use Rattle.std.specs.FinMap as map
use Rattle.ufs_model.specs.Paths.{components, whole_path, parent_of, components_refusal, IsWhole}
use Rattle.ufs_model.specs.PosixTree.{Paths, IsNamespace, root, stands, has_dir, is_dir}
use Rattle.ufs_model.specs.Directories.{renamed_path, renamed, is_below, has_entries}
use Rattle.ufs_model.specs.Walk.{file_of}
use Rattle.ufs_model.specs.declared.data.Node.{Node}
use Rattle.ufs_model.specs.declared.data.Node.TheVariants.{Dir, File}
use Rattle.ufs_model.proofs.Facts.Orders.{path_total, path_same}
use Rattle.ufs_model.proofs.Facts.Lookups.{from_some, there_or_not, one_or_apart, removed_else, left_was, rekeyed_at, rekeyed_from}
use Rattle.ufs_model.proofs.Facts.Pieces.{ArePlain, Moves, Stays, moves_or_stays, components_of, components_plain, plain_append, plain_back, plain_take, same_names, front_of, front_append, last, parent_is, names_below}
use Rattle.ufs_model.proofs.Facts.Allowed.{allowed_append, allowed_back}
use Rattle.ufs_model.proofs.Facts.Walks.{is_dir-some, dir_stands, entry_stands}
use Rattle.ufs_model.proofs.Facts.Live.{Named}

pub no_first : (x : List ℕ) (xs ys : List (List ℕ)) → [] ≡ (x ∷ xs) ++ ys → ⊥
no_first x xs ys e = cc

pub no_longer : (xs : List (List ℕ)) (y : List ℕ) → xs ≡ xs ++ y ∷ [] → ⊥
no_longer xs y e = omega (arith, ap length e, length-append xs (y ∷ []))

-- When the names of one whole path may take the place of those of another.
pub record MayRename (paths : Paths) (f : List ℕ) (fs : List (List ℕ)) (g : List ℕ) (gs : List (List ℕ)) : Type 0 where
  pub space : IsNamespace (stands paths) (has_dir paths)
  pub old_plain : ArePlain (f ∷ fs)
  pub new_plain : ArePlain (g ∷ gs)
  pub allowed : components_refusal (g ∷ gs) ≡ None
  -- nothing stands below the new name
  pub bare : (y : List ℕ) (ys : List (List ℕ)) → ArePlain (y ∷ ys) → stands paths (whole_path ((g ∷ gs) ++ y ∷ ys)) ≡ true → ⊥
  -- the directory of the new name stands, and isn't at or below the old one
  pub parent : has_dir paths (whole_path (front_of (g ∷ gs))) ≡ true
  pub outside : (names : List (List ℕ)) → front_of (g ∷ gs) ≡ (f ∷ fs) ++ names → ⊥
  pub apart : whole_path (f ∷ fs) ≡ whole_path (g ∷ gs) → ⊥

module _ (paths : Paths) (f : List ℕ) (fs : List (List ℕ)) (g : List ℕ) (gs : List (List ℕ)) (may : MayRename paths f fs g gs) where
  abbrev pub from : List ℕ
  from = whole_path (f ∷ fs)

  abbrev pub to : List ℕ
  to = whole_path (g ∷ gs)

  abbrev pub new_path : List ℕ → List ℕ
  new_path path = renamed_path from to path

  abbrev pub now : Paths
  now = renamed paths from to

  abbrev pub Case : List ℕ → Type 0
  Case path = ((names : List (List ℕ)) × Moves f fs g gs path names) ⊎ Stays f fs g gs path

  pub spelled : (path : List ℕ) → stands paths path ≡ true → whole_path (components path) ≡ path
  spelled path there = (may.space.whole path there).spelled

  pub case_of : (path : List ℕ) → stands paths path ≡ true → Case path
  case_of path there = moves_or_stays f fs g gs may.old_plain path (spelled path there)

  -- no path that stands has a name that another gets
  pub no_clash : (path : List ℕ) (names : List (List ℕ)) → ArePlain names → stands paths path ≡ true → (path ≡ to → ⊥) → path ≡ whole_path ((g ∷ gs) ++ names) → ⊥
  no_clash path [] plain there not e = not (e ∙ ap whole_path (append-nil (g ∷ gs)))
  no_clash path (y ∷ ys) plain there not e = may.bare y ys plain (ap (stands paths) (sym e) ∙ there)

  pub plain_rest : (path : List ℕ) (names : List (List ℕ)) → components path ≡ (f ∷ fs) ++ names → ArePlain names
  plain_rest path names e = plain_back (f ∷ fs) names (subst ArePlain e (components_plain path))

  pub one_path : (path other : List ℕ) → stands paths path ≡ true → (path ≡ to → ⊥) → stands paths other ≡ true → (other ≡ to → ⊥) → new_path path ≡ new_path other → path ≡ other
  one_path path other there not there' not' e = by (case_of path there) (case_of other there')
    where
      by : Case path → Case other → path ≡ other
      by (inl a) (inl b) =
          let names = append_cancel_left (g ∷ gs) a.0 b.0 (same_names ((g ∷ gs) ++ a.0) ((g ∷ gs) ++ b.0)
          (plain_append (g ∷ gs) a.0 may.new_plain (plain_rest path a.0 a.1.0)) (plain_append (g ∷ gs) b.0 may.new_plain (plain_rest other b.0 b.1.0))
          (sym a.1.1 ∙ e ∙ b.1.1)) in
          sym (spelled path there) ∙ ap whole_path (a.1.0 ∙ ap (λ ns. (f ∷ fs) ++ ns) names ∙ sym b.1.0) ∙ spelled other there'
      by (inl a) (inr b) = absurd (no_clash other a.0 (plain_rest path a.0 a.1.0) there' not' (sym b.1 ∙ sym e ∙ a.1.1))
      by (inr a) (inl b) = absurd (no_clash path b.0 (plain_rest other b.0 b.1.0) there not (sym a.1 ∙ e ∙ b.1.1))
      by (inr a) (inr b) = sym a.1 ∙ e ∙ b.1

  -- what stands stood, and has its new name
  pub was : (q : List ℕ) (n : Node) → map.get now q ≡ Some n → (path : List ℕ) × (map.get paths path ≡ Some n) × (path ≡ to → ⊥) × (q ≡ new_path path)
  was q n there =
      let old = rekeyed_from path_total path_same new_path (map.remove paths to) q n there in
      let left = left_was path_total path_same paths to old.0 n old.1 in
      (old.0, left.1, left.0, old.2)

  -- what stood has its new name, but for what stood there
  pub is_now : (path : List ℕ) (n : Node) → map.get paths path ≡ Some n → (path ≡ to → ⊥) → map.get now (new_path path) ≡ Some n
  is_now path n there not = rekeyed_at path_total path_same new_path (map.remove paths to) path n (removed_else path_total path_same paths to path not ∙ there) one
    where
      one : (l : List ℕ) → is_some (map.get (map.remove paths to) l) ≡ true → new_path l ≡ new_path path → l ≡ path
      one l h e =
          let some = from_some (map.get (map.remove paths to) l) h in
          let left = left_was path_total path_same paths to l some.0 some.1 in
          one_path l path (ap is_some left.1) left.0 (ap is_some there) not e

  pub dir_now : (path : List ℕ) → has_dir paths path ≡ true → (path ≡ to → ⊥) → has_dir now (new_path path) ≡ true
  dir_now path e not = ap is_dir (is_now path Dir (is_dir-some (map.get paths path) e) not)

  -- ---- the path above

  -- the names of the path above
  pub names_above : (path : List ℕ) → components (parent_of path) ≡ front_of (components path)
  names_above path = components_of (front_of (components path)) (plain_take (length (components path) - 1) (components path) (components_plain path))

  -- what stands has no path above it at the new name
  pub no_entry : (path : List ℕ) → stands paths path ≡ true → parent_of path ≡ to → ⊥
  no_entry path there e = by (components path) refl (sym (names_above path) ∙ ap components e ∙ components_of (g ∷ gs) may.new_plain)
    where
      by : (names : List (List ℕ)) → components path ≡ names → front_of names ≡ g ∷ gs → ⊥
      by [] is e = cc
      by (x ∷ xs) is e =
          let end = last x xs in
          may.bare end.0 [] (plain_back (front_of (x ∷ xs)) (end.0 ∷ []) (subst ArePlain (is ∙ end.1) (components_plain path))) (ap (stands paths) (ap whole_path (ap (λ names. names ++ end.0 ∷ []) (sym e) ∙ sym end.1 ∙ sym is) ∙ spelled path there) ∙ there)

  -- the path above what stays stays
  pub stays_above : (path : List ℕ) → Stays f fs g gs path → Case (parent_of path) → new_path (parent_of path) ≡ parent_of path
  stays_above path stays (inr up) = up.1
  stays_above path stays (inl up) = absurd (by (components path) refl (sym (names_above path) ∙ up.1.0))
    where
      by : (names : List (List ℕ)) → components path ≡ names → front_of names ≡ (f ∷ fs) ++ up.0 → ⊥
      by [] is e = cc
      by (x ∷ xs) is e =
          let end = last x xs in
          stays.0 (up.0 ++ end.0 ∷ []) (is ∙ end.1 ∙ ap (λ names. names ++ end.0 ∷ []) e ∙ append_assoc (f ∷ fs) up.0 (end.0 ∷ []))

  -- the path above what moves from below the old name moves
  pub moves_above : (path : List ℕ) (y : List ℕ) (ys : List (List ℕ)) → components path ≡ (f ∷ fs) ++ y ∷ ys → Case (parent_of path) → new_path (parent_of path) ≡ whole_path ((g ∷ gs) ++ front_of (y ∷ ys))
  moves_above path y ys e up = by up
    where
      names : components (parent_of path) ≡ (f ∷ fs) ++ front_of (y ∷ ys)
      names = names_above path ∙ ap front_of e ∙ front_append (f ∷ fs) y ys

      by : Case (parent_of path) → new_path (parent_of path) ≡ whole_path ((g ∷ gs) ++ front_of (y ∷ ys))
      by (inl up) = up.1.1 ∙ ap (λ ns. whole_path ((g ∷ gs) ++ ns)) (append_cancel_left (f ∷ fs) up.0 (front_of (y ∷ ys)) (sym up.1.0 ∙ names))
      by (inr up) = absurd (up.0 (front_of (y ∷ ys)) names)

  -- the directory of the new name is there
  pub parent_now : has_dir now (whole_path (front_of (g ∷ gs))) ≡ true
  parent_now = ap (has_dir now) (sym (stays (case_of path (dir_stands paths path may.parent)))) ∙ dir_now path may.parent not
    where
      path : List ℕ
      path = whole_path (front_of (g ∷ gs))

      names : components path ≡ front_of (g ∷ gs)
      names = components_of (front_of (g ∷ gs)) (plain_take (length (g ∷ gs) - 1) (g ∷ gs) may.new_plain)

      stays : Case path → new_path path ≡ path
      stays (inl a) = absurd (may.outside a.0 (sym names ∙ a.1.0))
      stays (inr a) = a.1

      not : path ≡ to → ⊥
      not e =
          let end = last g gs in
          no_longer (front_of (g ∷ gs)) end.0 (sym names ∙ ap components e ∙ components_of (g ∷ gs) may.new_plain ∙ end.1)

  -- ---- the paths form a tree

  pub new_names : (q : List ℕ) (names : List (List ℕ)) → ArePlain names → q ≡ whole_path ((g ∷ gs) ++ names) → components q ≡ (g ∷ gs) ++ names
  new_names q names plain e = ap components e ∙ components_of ((g ∷ gs) ++ names) (plain_append (g ∷ gs) names may.new_plain plain)

  pub whole_now : (path q : List ℕ) → stands paths path ≡ true → q ≡ new_path path → Case path → IsWhole q
  whole_now path q there is (inr a) = subst IsWhole (sym (is ∙ a.1)) (may.space.whole path there)
  whole_now path q there is (inl a) =
      let e = is ∙ a.1.1 in
      let names = new_names q a.0 (plain_rest path a.0 a.1.0) e in
      record {
        spelled = ap whole_path names ∙ sym e;
        allowed = ap components_refusal names ∙ allowed_append (g ∷ gs) a.0 may.allowed (allowed_back (f ∷ fs) a.0 (ap components_refusal (sym a.1.0) ∙ (may.space.whole path there).allowed));
      }

  pub above_now : (path : List ℕ) → stands paths path ≡ true → has_dir now (new_path (parent_of path)) ≡ true
  above_now path there = dir_now (parent_of path) (may.space.parents path there) (no_entry path there)

  pub case_above : (path : List ℕ) → stands paths path ≡ true → Case (parent_of path)
  case_above path there = case_of (parent_of path) (dir_stands paths (parent_of path) (may.space.parents path there))

  pub moved_parent : (path q : List ℕ) (names : List (List ℕ)) → stands paths path ≡ true → q ≡ whole_path ((g ∷ gs) ++ names) → components path ≡ (f ∷ fs) ++ names → has_dir now (parent_of q) ≡ true
  moved_parent path q [] there e is =
      ap (has_dir now) (parent_is q ((g ∷ gs) ++ []) (new_names q [] tt e) ∙ ap (λ names. whole_path (front_of names)) (append-nil (g ∷ gs))) ∙ parent_now
  moved_parent path q (y ∷ ys) there e is =
      ap (has_dir now) (parent_is q ((g ∷ gs) ++ y ∷ ys) (new_names q (y ∷ ys) (plain_rest path (y ∷ ys) is) e) ∙ ap whole_path (front_append (g ∷ gs) y ys)
      ∙ sym (moves_above path y ys is (case_above path there)))
      ∙ above_now path there

  pub parents_now : (path q : List ℕ) → stands paths path ≡ true → q ≡ new_path path → Case path → has_dir now (parent_of q) ≡ true
  parents_now path q there is (inr a) =
      ap (has_dir now) (ap parent_of (is ∙ a.1) ∙ sym (stays_above path a (case_above path there))) ∙ above_now path there
  parents_now path q there is (inl a) = moved_parent path q a.0 there (is ∙ a.1.1) a.1.0

  pub root_now : has_dir now root ≡ true
  root_now = ap (has_dir now) (sym (stays (case_of root (dir_stands paths root may.space.root_is_dir)))) ∙ dir_now root may.space.root_is_dir (λ e. no_first g gs [] (ap components e ∙ components_of (g ∷ gs) may.new_plain ∙ sym (append-nil (g ∷ gs))))
    where
      stays : Case root → new_path root ≡ root
      stays (inl a) = absurd (no_first f fs a.0 a.1.0)
      stays (inr a) = a.1

  pub namespace_now : IsNamespace (stands now) (has_dir now)
  namespace_now = record {
    root_is_dir = root_now;
    whole = λ q there.
        let some = from_some (map.get now q) there in
        let old = was q some.0 some.1 in
        whole_now old.0 q (ap is_some old.1) old.3 (case_of old.0 (ap is_some old.1));
    parents = λ q there.
        let some = from_some (map.get now q) there in
        let old = was q some.0 some.1 in
        parents_now old.0 q (ap is_some old.1) old.3 (case_of old.0 (ap is_some old.1));
  }

  -- ---- what stands at the two names

  pub at_new_name : (n : Node) → map.get paths from ≡ Some n → map.get now to ≡ Some n
  at_new_name n there = ap (map.get now) (sym (moves (case_of from (ap is_some there)))) ∙ is_now from n there may.apart
    where
      moves : Case from → new_path from ≡ to
      moves (inl a) =
          let none = append_cancel_left (f ∷ fs) a.0 [] (sym a.1.0 ∙ components_of (f ∷ fs) may.old_plain ∙ sym (append-nil (f ∷ fs))) in
          a.1.1 ∙ ap (λ names. whole_path ((g ∷ gs) ++ names)) none ∙ ap whole_path (append-nil (g ∷ gs))
      moves (inr a) = absurd (a.0 [] (components_of (f ∷ fs) may.old_plain ∙ sym (append-nil (f ∷ fs))))

  pub at_old_name : (n : Node) → map.get paths from ≡ Some n → map.get now from ≡ None
  at_old_name n there = by (there_or_not (map.get now from))
    where
      clash : (path : List ℕ) → from ≡ new_path path → Case path → ⊥
      clash path is (inl a) = no_clash from a.0 (plain_rest path a.0 a.1.0) (ap is_some there) may.apart (is ∙ a.1.1)
      clash path is (inr a) = a.0 [] (ap components (sym a.1 ∙ sym is) ∙ components_of (f ∷ fs) may.old_plain ∙ sym (append-nil (f ∷ fs)))

      by : ((n : Node) × (map.get now from ≡ Some n)) ⊎ (map.get now from ≡ None) → map.get now from ≡ None
      by (inr none) = none
      by (inl some) = let old = was from some.0 some.1 in absurd (clash old.0 old.3 (case_of old.0 (ap is_some old.1)))

  -- ---- neither name stands in the way of the other

  pub not_below : is_below from to ≡ false
  not_below =
      false_from_ne_true _ (λ e.
      let names = names_below f fs (g ∷ gs) may.old_plain may.new_plain e in
      may.outside (front_of (names.0 ∷ names.1)) (ap front_of names.2 ∙ front_append (f ∷ fs) names.0 names.1))

  pub no_entries : has_entries paths to ≡ false
  no_entries = false_from_ne_true _ (λ e. let entry = entry_stands paths to e in no_entry entry.0 entry.1 entry.2)

  -- ---- the files that are named

  pub named_before : (h : ℕ) → Named now h → Named paths h
  named_before h at = let old = was at.0 (File h) at.1 in (old.0, old.1)

  pub named_after : (h : ℕ) → Named paths h → (file_of (map.get paths to) ≡ Some h) ⊎ Named now h
  named_after h at = by (one_or_apart path_total path_same at.0 to)
    where
      by : (at.0 ≡ to) ⊎ (at.0 ≡ to → ⊥) → (file_of (map.get paths to) ≡ Some h) ⊎ Named now h
      by (inl e) = inl (ap (λ q. file_of (map.get paths q)) (sym e) ∙ ap file_of at.1)
      by (inr not) = inr (new_path at.0, is_now at.0 (File h) at.1 not)
