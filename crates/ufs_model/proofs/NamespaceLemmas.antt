-- Paths form a tree after one comes or goes.
use Rattle.std.proofs.Common.{◌≡◌, ℕ, ◌+◌, ◌<◌, ◌⊎◌, inl, inr, List, [], true, Some, None, is_some, ap, sym, subst, ◌∙◌, arith}
use Rattle.std.specs.Cmp.{nat_cmp_total}
use Rattle.std.specs.FinMap as map
use Rattle.std.specs.FinMap.{nat_cmp-IsAntisymmetric}
use Rattle.ufs_model.specs.Paths.{IsWhole, parent_of}
use Rattle.ufs_model.specs.PosixTree.{PosixTree, Paths, IsTree, IsNamespace, root, stands, has_dir, is_dir}
use Rattle.ufs_model.specs.Posix.{with_file, without_path}
use Rattle.ufs_model.specs.Walk.{file_of}
use Rattle.ufs_model.specs.declared.data.Node.{Node}
use Rattle.ufs_model.specs.declared.data.Node.TheVariants.{Dir, File}
use Rattle.ufs_model.proofs.Facts.Orders.{path_total, path_same}
use Rattle.ufs_model.proofs.Facts.Lookups.{same_some, from_some, one_or_apart, inserted_here, inserted_else, removed_else, left_was}
use Rattle.ufs_model.proofs.Facts.Walks.{is_dir-some}
use Rattle.ufs_model.proofs.Facts.Live.{Named, Held, HasBytes, bytes_there, from_held, held_has, has_held, keeps_paths, forget_lost}

-- ---- a path comes

module _ (paths : Paths) (path : List ℕ) (n : Node) (absent : map.get paths path ≡ None) where
  -- what stood still stands
  stood : (q : List ℕ) (x : Node) → map.get paths q ≡ Some x → map.get (map.insert paths path n) q ≡ Some x
  stood q x there = inserted_else path_total path_same paths path n q (λ e. let none = ap (map.get paths) e ∙ absent in cc) ∙ there

  -- what stands now stood, or is the new path
  now : (P : List ℕ → Type 0) (q : List ℕ) → (stands paths q ≡ true → P q) → P path → stands (map.insert paths path n) q ≡ true → P q
  now P q old new there = by (one_or_apart path_total path_same q path)
    where
      by : (q ≡ path) ⊎ (q ≡ path → ⊥) → P q
      by (inl e) = subst P (sym e) new
      by (inr not) = old (ap is_some (sym (inserted_else path_total path_same paths path n q not)) ∙ there)

  dir_stood : (q : List ℕ) → has_dir paths q ≡ true → has_dir (map.insert paths path n) q ≡ true
  dir_stood q e = ap is_dir (stood q Dir (is_dir-some (map.get paths q) e))

  namespace_grows : IsNamespace (stands paths) (has_dir paths) → IsWhole path → has_dir paths (parent_of path) ≡ true → IsNamespace (stands (map.insert paths path n)) (has_dir (map.insert paths path n))
  namespace_grows s whole parent = record {
    root_is_dir = dir_stood root s.root_is_dir;
    whole = λ q there. now IsWhole q (s.whole q) whole there;
    parents = λ q there. dir_stood (parent_of q) (now (λ q. has_dir paths (parent_of q) ≡ true) q (s.parents q) parent there);
  }

-- what is named is named by the new path, or was named
named_before : (paths : Paths) (path : List ℕ) (n : Node) (f : ℕ) → Named (map.insert paths path n) f → (n ≡ File f) ⊎ Named paths f
named_before paths path n f at = by (one_or_apart path_total path_same at.0 path)
  where
    by : (at.0 ≡ path) ⊎ (at.0 ≡ path → ⊥) → (n ≡ File f) ⊎ Named paths f
    by (inl e) = inl (same_some n (File f) (sym (inserted_here path_total path_same paths path n) ∙ sym (ap (map.get (map.insert paths path n)) e) ∙ at.1))
    by (inr not) = inr (at.0, sym (inserted_else path_total path_same paths path n at.0 not) ∙ at.1)

module _ (t : PosixTree) (is : IsTree t) (path : List ℕ) (absent : map.get t.paths path ≡ None) (whole : IsWhole path) (parent : has_dir t.paths (parent_of path) ≡ true) where
  -- a new directory
  pub keeps_new_dir : IsTree (record t { paths = map.insert t.paths path Dir })
  keeps_new_dir = forget_lost (record t { paths = map.insert t.paths path Dir }) None (keeps_paths t is (map.insert t.paths path Dir) None
      (namespace_grows t.paths path Dir absent is.namespace whole parent)
      (λ f at. by f (named_before t.paths path Dir f at))
      (λ f at. inr (at.0, stood t.paths path Dir absent at.0 (File f) at.1)))
    where
      by : (f : ℕ) → (Dir ≡ File f) ⊎ Named t.paths f → Named t.paths f
      by f (inl e) = cc
      by f (inr at) = at

  -- a new file
  pub keeps_new_file : IsTree (with_file t path)
  keeps_new_file = from_held (with_file t path) (namespace_grows t.paths path (File t.next) absent is.namespace whole parent)
      (λ f h. held_bytes f h)
      (λ f h. bytes_held f (one_or_apart nat_cmp_total nat_cmp-IsAntisymmetric f t.next) h)
      (λ f h. below f (one_or_apart nat_cmp_total nat_cmp-IsAntisymmetric f t.next) h)
    where
      old : (f : ℕ) → HasBytes t.bytes f → HasBytes (map.insert t.bytes t.next []) f
      old f h = ap is_some (inserted_else nat_cmp_total nat_cmp-IsAntisymmetric t.bytes t.next [] f (λ e. let below = is.numbered f h in omega (arith, e))) ∙ h

      named_bytes : (f : ℕ) → (File t.next ≡ File f) ⊎ Named t.paths f → HasBytes (map.insert t.bytes t.next []) f
      named_bytes f (inl e) = let it : t.next ≡ f = cc in subst (HasBytes (map.insert t.bytes t.next [])) it (bytes_there t.bytes t.next [])
      named_bytes f (inr at) = old f (held_has t is f (inl at))

      held_bytes : (f : ℕ) → Held (map.insert t.paths path (File t.next)) t.fds f → HasBytes (map.insert t.bytes t.next []) f
      held_bytes f (inl at) = named_bytes f (named_before t.paths path (File t.next) f at)
      held_bytes f (inr at) = old f (held_has t is f (inr at))

      had : (f : ℕ) → (f ≡ t.next → ⊥) → HasBytes (map.insert t.bytes t.next []) f → HasBytes t.bytes f
      had f not h = ap is_some (sym (inserted_else nat_cmp_total nat_cmp-IsAntisymmetric t.bytes t.next [] f not)) ∙ h

      still : (f : ℕ) → Held t.paths t.fds f → Held (map.insert t.paths path (File t.next)) t.fds f
      still f (inl at) = inl (at.0, stood t.paths path (File t.next) absent at.0 (File f) at.1)
      still f (inr at) = inr at

      bytes_held : (f : ℕ) → (f ≡ t.next) ⊎ (f ≡ t.next → ⊥) → HasBytes (map.insert t.bytes t.next []) f → Held (map.insert t.paths path (File t.next)) t.fds f
      bytes_held f (inl e) h = inl (path, inserted_here path_total path_same t.paths path (File t.next) ∙ ap (λ f. Some (File f)) (sym e))
      bytes_held f (inr not) h = still f (has_held t is f (had f not h))

      below : (f : ℕ) → (f ≡ t.next) ⊎ (f ≡ t.next → ⊥) → HasBytes (map.insert t.bytes t.next []) f → f < t.next + 1
      below f (inl e) h = omega (arith, e)
      below f (inr not) h = let less = is.numbered f (had f not h) in omega (arith, less)

-- ---- a path goes

module _ (t : PosixTree) (is : IsTree t) (path : List ℕ) (other : path ≡ root → ⊥) (leaf : (q : List ℕ) → stands t.paths q ≡ true → parent_of q ≡ path → ⊥) where
  was : (q : List ℕ) → stands (map.remove t.paths path) q ≡ true → stands t.paths q ≡ true
  was q there =
      let some = from_some (map.get (map.remove t.paths path) q) there in
      ap is_some (left_was path_total path_same t.paths path q some.0 some.1).1

  dir_left : (q : List ℕ) → (q ≡ path → ⊥) → has_dir t.paths q ≡ true → has_dir (map.remove t.paths path) q ≡ true
  dir_left q not e = ap is_dir (removed_else path_total path_same t.paths path q not) ∙ e

  namespace_shrinks : IsNamespace (stands (map.remove t.paths path)) (has_dir (map.remove t.paths path))
  namespace_shrinks = record {
    root_is_dir = dir_left root (λ e. other (sym e)) is.namespace.root_is_dir;
    whole = λ q there. is.namespace.whole q (was q there);
    parents = λ q there. dir_left (parent_of q) (leaf q (was q there)) (is.namespace.parents q (was q there));
  }

  -- a path with no entries goes
  pub keeps_without : IsTree (without_path t path)
  keeps_without = forget_lost (record t { paths = map.remove t.paths path }) (file_of (map.get t.paths path)) (keeps_paths t is (map.remove t.paths path) (file_of (map.get t.paths path)) namespace_shrinks
      (λ f at. (at.0, (left_was path_total path_same t.paths path at.0 (File f) at.1).1))
      (λ f at. by f at (one_or_apart path_total path_same at.0 path)))
    where
      by : (f : ℕ) (at : Named t.paths f) → (at.0 ≡ path) ⊎ (at.0 ≡ path → ⊥) → (file_of (map.get t.paths path) ≡ Some f) ⊎ Named (map.remove t.paths path) f
      by f at (inl e) = inl (ap (λ q. file_of (map.get t.paths q)) (sym e) ∙ ap file_of at.1)
      by f at (inr not) = inr (at.0, removed_else path_total path_same t.paths path at.0 not ∙ at.1)
