-- Above each path that stands its directories stand; and the walk to a path passes only directories.
use Rattle.std.proofs.Common.{◌≡◌, ℕ, List, [], ◌∷◌, ◌++◌, Bool, true, false, not, length, Option, Some, None, is_some, ap, sym, refl, subst, ◌∙◌, arith, append_assoc, length-append, bytes_eq}
use Rattle.std.proofs.lemmas.Bool.{and_parts, and_from}
use Rattle.std.proofs.lemmas.List.{append-nil}
use Rattle.std.specs.FinMap as map
use Rattle.ufs_model.specs.Paths.{components, whole_path, whole_of, parent_of}
use Rattle.ufs_model.specs.PosixTree.{Paths, IsNamespace, stands, has_dir, is_dir, root}
use Rattle.ufs_model.specs.Walk.{walk_refusal, walk_refusal_from, dir_refusal}
use Rattle.ufs_model.specs.Directories.{has_entries, is_entry_of}
use Rattle.ufs_model.specs.declared.data.Node.{Node}
use Rattle.ufs_model.specs.declared.data.Node.TheVariants.{Dir, File}
use Rattle.ufs_model.proofs.Facts.Orders.{path_total, path_same}
use Rattle.ufs_model.proofs.Facts.Lookups.{key_passes, passing_key}
use Rattle.ufs_model.proofs.Facts.Pieces.{ArePlain, bytes_same, same_bytes, components_of, front_of, front_cons, front_last, parent_is, plain_front}
use Rattle.ufs_model.proofs.Facts.Allowed.{first_none, names_of_whole}

-- a directory that is there
pub is_dir-some : (o : Option Node) → is_dir o ≡ true → o ≡ Some Dir
is_dir-some None e = cc
is_dir-some (Some Dir) e = refl
is_dir-some (Some (File f)) e = cc

pub dir_stands : (paths : Paths) (path : List ℕ) → has_dir paths path ≡ true → stands paths path ≡ true
dir_stands paths path e = ap is_some (is_dir-some (map.get paths path) e)

pub no_names : (front : List (List ℕ)) (y : List ℕ) → front ++ y ∷ [] ≡ [] → ⊥
no_names front y e = omega (arith, ap length e, length-append front (y ∷ []))

-- an entry that stands is told of its directory
pub entry_there : (paths : Paths) (path dir : List ℕ) → stands paths path ≡ true → parent_of path ≡ dir → (path ≡ root → ⊥) → has_entries paths dir ≡ true
entry_there paths path dir there parent other =
    key_passes path_total path_same (is_entry_of dir) paths path there (and_from _ _ (bytes_same (parent_of path) dir parent) (not_root (bytes_eq path root) refl))
  where
    not_root : (b : Bool) → bytes_eq path root ≡ b → not (bytes_eq path root) ≡ true
    not_root true e = absurd (other (same_bytes path root e))
    not_root false e = ap not e

-- a directory that has entries has one that stands
pub entry_stands : (paths : Paths) (dir : List ℕ) → has_entries paths dir ≡ true → (path : List ℕ) × (stands paths path ≡ true) × (parent_of path ≡ dir)
entry_stands paths dir e =
    let entry = passing_key path_total path_same (is_entry_of dir) paths e in
    (entry.0, entry.1, same_bytes (parent_of entry.0) dir (and_parts _ _ entry.2).0)

module _ (paths : Paths) (s : IsNamespace (stands paths) (has_dir paths)) where
  pub dir_over : (front : List (List ℕ)) (y : List ℕ) → ArePlain (front ++ y ∷ []) → stands paths (whole_path (front ++ y ∷ [])) ≡ true → has_dir paths (whole_path front) ≡ true
  dir_over front y plain there =
      subst (λ path. has_dir paths path ≡ true) (parent_is (whole_path (front ++ y ∷ [])) (front ++ y ∷ []) (components_of (front ++ y ∷ []) plain) ∙ ap whole_path (front_last front y)) (s.parents (whole_path (front ++ y ∷ [])) there)

  -- each path above one that stands is a directory
  pub dir_above : (front : List (List ℕ)) (y : List ℕ) (ys : List (List ℕ)) → ArePlain (front ++ y ∷ ys) → stands paths (whole_path (front ++ y ∷ ys)) ≡ true → has_dir paths (whole_path front) ≡ true
  dir_above front y [] plain there = dir_over front y plain there
  dir_above front y (z ∷ ys) plain there =
      let e : (front ++ y ∷ []) ++ z ∷ ys ≡ front ++ y ∷ z ∷ ys = append_assoc front (y ∷ []) (z ∷ ys) in
      let plain' : ArePlain ((front ++ y ∷ []) ++ z ∷ ys) = subst ArePlain (sym e) plain in
      let next = dir_above (front ++ y ∷ []) z ys plain' (ap (λ names. stands paths (whole_path names)) e ∙ there) in
      dir_over front y (plain_front (front ++ y ∷ []) (z ∷ ys) plain') (dir_stands paths (whole_path (front ++ y ∷ [])) next)

  -- and has an entry
  pub entry_above : (front : List (List ℕ)) (y : List ℕ) (ys : List (List ℕ)) → ArePlain (front ++ y ∷ ys) → stands paths (whole_path (front ++ y ∷ ys)) ≡ true → has_entries paths (whole_path front) ≡ true
  entry_above front y ys plain there = by ys plain there
    where
      one : ArePlain (front ++ y ∷ []) → stands paths (whole_path (front ++ y ∷ [])) ≡ true → has_entries paths (whole_path front) ≡ true
      one plain there =
          let names = components_of (front ++ y ∷ []) plain in
          entry_there paths (whole_path (front ++ y ∷ [])) (whole_path front) there (parent_is (whole_path (front ++ y ∷ [])) (front ++ y ∷ []) names ∙ ap whole_path (front_last front y)) (λ e. no_names front y (sym names ∙ ap components e))

      by : (ys : List (List ℕ)) → ArePlain (front ++ y ∷ ys) → stands paths (whole_path (front ++ y ∷ ys)) ≡ true → has_entries paths (whole_path front) ≡ true
      by [] plain there = one plain there
      by (z ∷ ys) plain there =
          let e : (front ++ y ∷ []) ++ z ∷ ys ≡ front ++ y ∷ z ∷ ys = append_assoc front (y ∷ []) (z ∷ ys) in
          let plain' : ArePlain ((front ++ y ∷ []) ++ z ∷ ys) = subst ArePlain (sym e) plain in
          one (plain_front (front ++ y ∷ []) (z ∷ ys) plain') (dir_stands paths (whole_path (front ++ y ∷ [])) (dir_above (front ++ y ∷ []) z ys plain' (ap (λ names. stands paths (whole_path names)) e ∙ there)))

-- what the walk takes for a directory is one
pub walked : (o : Option Node) → dir_refusal o ≡ None → is_dir o ≡ true
walked None e = cc
walked (Some Dir) e = refl
walked (Some (File f)) e = cc

-- The walk that isn't refused ends in a directory, in which the last name is looked for.
pub walk_ends : (paths : Paths) (above names : List (List ℕ)) → has_dir paths (whole_path above) ≡ true → walk_refusal_from paths above names ≡ None → has_dir paths (whole_path (above ++ front_of names)) ≡ true
walk_ends paths above [] dir e = ap (λ names. has_dir paths (whole_path names)) (append-nil above) ∙ dir
walk_ends paths above (name ∷ []) dir e = ap (λ names. has_dir paths (whole_path names)) (append-nil above) ∙ dir
walk_ends paths above (name ∷ next ∷ names) dir e =
    let both = first_none (dir_refusal (map.get paths (whole_path (above ++ name ∷ [])))) (walk_refusal_from paths (above ++ name ∷ []) (next ∷ names)) e in
    ap (λ names. has_dir paths (whole_path names)) (ap (λ rest. above ++ rest) (front_cons name next names) ∙ sym (append_assoc above (name ∷ []) (front_of (next ∷ names))))
    ∙ walk_ends paths (above ++ name ∷ []) (next ∷ names) (walked _ both.0) both.1

-- the names above the last lead to a directory
pub dir_of_path : (paths : Paths) (path : List ℕ) → IsNamespace (stands paths) (has_dir paths) → walk_refusal paths path ≡ None → has_dir paths (whole_path (front_of (components path))) ≡ true
dir_of_path paths path s e = walk_ends paths [] (components path) s.root_is_dir e

pub parent_is_dir : (paths : Paths) (path : List ℕ) → IsNamespace (stands paths) (has_dir paths) → walk_refusal paths path ≡ None → has_dir paths (parent_of (whole_of path)) ≡ true
parent_is_dir paths path s e = ap (has_dir paths) (parent_is (whole_of path) (components path) (names_of_whole path)) ∙ dir_of_path paths path s e
