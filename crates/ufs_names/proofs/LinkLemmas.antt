-- Which files a path names, and what is known of each file, as paths come, go and get new names.
use Rattle.std.proofs.Common.{◌≡◌, ℕ, ◌⊎◌, inl, inr, List, ◌∷◌, Bool, true, false, Option, Some, None, unwrap_or, ap, sym, ◌∙◌}
use Rattle.std.proofs.lemmas.Bool.{false_from_ne_true}
use Rattle.std.specs.List.{list_any}
use Rattle.std.specs.Cmp.{nat_cmp_total}
use Rattle.std.specs.FinMap as map
use Rattle.std.specs.FinMap.{nat_cmp-IsAntisymmetric}
use Rattle.ufs_model.specs.Paths.{whole_path}
use Rattle.ufs_model.specs.PosixTree.{Paths, is_node_of}
use Rattle.ufs_model.specs.Walk.{file_of}
use Rattle.ufs_model.specs.Directories.{renamed}
use Rattle.ufs_model.specs.declared.data.Node.{Node}
use Rattle.ufs_model.specs.declared.data.Node.TheVariants.{Dir, File}
use Rattle.ufs_model.proofs.Facts.Orders.{path_total, path_same}
use Rattle.ufs_model.proofs.Facts.Lookups.{one_or_apart, inserted_here, inserted_else, removed_here, removed_else, left_was, passes, from_passes}
use Rattle.ufs_model.proofs.Facts.Live.{Named, node_is, is_itself, alike}
use Rattle.ufs_model.proofs.Facts.Renames.{MayRename, was, named_before, named_after}
use Rattle.ufs_names.specs.NamesPart.{IsNamedOnce, Holdings, holding_of, unheld}
use Rattle.ufs_names.specs.declared.holding.Holding.{Holding}
use Rattle.ufs_names.proofs.OnceLemmas.{put_or_stood}

-- ---- which files a path names

-- a path names the file
abbrev pub is_named : Paths → ℕ → Bool
is_named paths f = list_any (is_node_of f) (map.values paths)

pub named : (paths : Paths) (f : ℕ) → is_named paths f ≡ true → Named paths f
named paths f e = let at = passes path_total path_same (is_node_of f) paths e in (at.0, at.2 ∙ ap Some (node_is f at.1 at.3))

pub is_named_from : (paths : Paths) (f : ℕ) → Named paths f → is_named paths f ≡ true
is_named_from paths f at = from_passes path_total path_same (is_node_of f) paths (at.0, File f, at.1, is_itself f)

-- the same files are named
pub named_alike : (paths paths' : Paths) (f : ℕ) → (Named paths f → Named paths' f) → (Named paths' f → Named paths f) → is_named paths f ≡ is_named paths' f
named_alike paths paths' f to back = alike _ _ (λ e. is_named_from paths' f (to (named paths f e))) (λ e. is_named_from paths f (back (named paths' f e)))

pub unnamed : (paths : Paths) (f : ℕ) → (Named paths f → ⊥) → is_named paths f ≡ false
unnamed paths f never = false_from_ne_true _ (λ e. never (named paths f e))

-- the file that stands there
pub file_there : (o : Option Node) (f : ℕ) → file_of o ≡ Some f → o ≡ Some (File f)
file_there None f e = cc
file_there (Some Dir) f e = cc
file_there (Some (File g)) f e = let same : g ≡ f = cc in ap (λ g. Some (File g)) same

module _ (paths : Paths) (path : List ℕ) where
  -- ---- a path comes

  -- what is named is named on, where the path is new
  still : (w : Node) (f : ℕ) → map.get paths path ≡ None → Named paths f → Named (map.insert paths path w) f
  still w f absent at = (at.0, inserted_else path_total path_same paths path w at.0 (λ e. let none = ap (map.get paths) e ∙ absent in let there = at.1 in cc) ∙ at.1)

  -- another file is named as before
  pub named_else : (w : Node) (f : ℕ) → map.get paths path ≡ None → (w ≡ File f → ⊥) → is_named (map.insert paths path w) f ≡ is_named paths f
  named_else w f absent other = named_alike (map.insert paths path w) paths f (λ at. by at.0 (put_or_stood paths path w at.0 (File f) at.1)) (still w f absent)
    where
      by : (q : List ℕ) → ((q ≡ path) × (w ≡ File f)) ⊎ (map.get paths q ≡ Some (File f)) → Named paths f
      by q (inl e) = absurd (other e.1)
      by q (inr there) = (q, there)

  pub named_dir : (f : ℕ) → map.get paths path ≡ None → is_named (map.insert paths path Dir) f ≡ is_named paths f
  named_dir f absent = named_else Dir f absent (λ e. cc)

  pub named_here : (f : ℕ) → is_named (map.insert paths path (File f)) f ≡ true
  named_here f = is_named_from (map.insert paths path (File f)) f (path, inserted_here path_total path_same paths path (File f))

  -- ---- a path goes

  -- the file that stood there has no name any more
  pub unnamed_gone : (f : ℕ) → IsNamedOnce paths → file_of (map.get paths path) ≡ Some f → is_named (map.remove paths path) f ≡ false
  unnamed_gone f once stood = unnamed (map.remove paths path) f (λ at.
      let left = left_was path_total path_same paths path at.0 (File f) at.1 in
      left.0 (once at.0 path f left.1 (file_there (map.get paths path) f stood)))

  pub named_left : (f : ℕ) → (file_of (map.get paths path) ≡ Some f → ⊥) → is_named (map.remove paths path) f ≡ is_named paths f
  named_left f other = named_alike (map.remove paths path) paths f (λ at. (at.0, (left_was path_total path_same paths path at.0 (File f) at.1).1))
      (λ at. (at.0, removed_else path_total path_same paths path at.0 (λ e. other (ap (λ q. file_of (map.get paths q)) (sym e) ∙ ap file_of at.1)) ∙ at.1))

-- ---- a new name

module _ (paths : Paths) (f : List ℕ) (fs : List (List ℕ)) (g : List ℕ) (gs : List (List ℕ)) (may : MayRename paths f fs g gs) where
  -- the file that stood at the new name has no name any more
  pub unnamed_renamed : (h : ℕ) → IsNamedOnce paths → file_of (map.get paths (whole_path (g ∷ gs))) ≡ Some h → is_named (renamed paths (whole_path (f ∷ fs)) (whole_path (g ∷ gs))) h ≡ false
  unnamed_renamed h once stood = unnamed (renamed paths (whole_path (f ∷ fs)) (whole_path (g ∷ gs))) h (λ at.
      let old = was paths f fs g gs may at.0 (File h) at.1 in
      old.2 (once old.0 (whole_path (g ∷ gs)) h old.1 (file_there (map.get paths (whole_path (g ∷ gs))) h stood)))

  pub named_renamed : (h : ℕ) → (file_of (map.get paths (whole_path (g ∷ gs))) ≡ Some h → ⊥) → is_named (renamed paths (whole_path (f ∷ fs)) (whole_path (g ∷ gs))) h ≡ is_named paths h
  named_renamed h other = named_alike (renamed paths (whole_path (f ∷ fs)) (whole_path (g ∷ gs))) paths h (named_before paths f fs g gs may h) (λ at. by (named_after paths f fs g gs may h at))
    where
      by : (file_of (map.get paths (whole_path (g ∷ gs))) ≡ Some h) ⊎ Named (renamed paths (whole_path (f ∷ fs)) (whole_path (g ∷ gs))) h → Named (renamed paths (whole_path (f ∷ fs)) (whole_path (g ∷ gs))) h
      by (inl e) = absurd (other e)
      by (inr at) = at

-- ---- what is known of each file

pub number_apart : (x y : ℕ) → (x ≡ y) ⊎ (x ≡ y → ⊥)
number_apart = one_or_apart nat_cmp_total nat_cmp-IsAntisymmetric

module _ (held : Holdings) (f : ℕ) where
  pub holding_put : (h : Holding) → holding_of (map.insert held f h) f ≡ h
  holding_put h = ap (λ o. unwrap_or o unheld) (inserted_here nat_cmp_total nat_cmp-IsAntisymmetric held f h)

  pub holding_else : (h : Holding) (g : ℕ) → (g ≡ f → ⊥) → holding_of (map.insert held f h) g ≡ holding_of held g
  holding_else h g not = ap (λ o. unwrap_or o unheld) (inserted_else nat_cmp_total nat_cmp-IsAntisymmetric held f h g not)

  pub holding_gone : holding_of (map.remove held f) f ≡ unheld
  holding_gone = ap (λ o. unwrap_or o unheld) (removed_here nat_cmp_total nat_cmp-IsAntisymmetric held f)

  pub holding_left : (g : ℕ) → (g ≡ f → ⊥) → holding_of (map.remove held f) g ≡ holding_of held g
  holding_left g not = ap (λ o. unwrap_or o unheld) (removed_else nat_cmp_total nat_cmp-IsAntisymmetric held f g not)
