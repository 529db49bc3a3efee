-- Which files are live, and what leaves a tree a tree as bytes, descriptors and paths come and go.
use Rattle.std.proofs.Common.{◌≡◌, ℕ, ◌<◌, ◌⊎◌, inl, inr, List, Bool, true, false, ◌||◌, Option, Some, None, is_some, ap, sym, refl, subst, ◌∙◌, eqb}
use Rattle.std.proofs.lemmas.Bool.{eqb-true, eq-eqb}
use Rattle.std.specs.List.{list_any}
use Rattle.std.specs.Cmp.{nat_cmp_total}
use Rattle.std.specs.FinMap as map
use Rattle.std.specs.FinMap.{nat_cmp-IsAntisymmetric}
use Rattle.ufs_model.specs.PosixTree.{PosixTree, Paths, Files, Fds, IsTree, IsNamespace, stands, has_dir, is_live, is_node_of, is_desc_of, is_number}
use Rattle.ufs_model.specs.Posix.{with_fd, with_bytes, forget}
use Rattle.ufs_model.specs.declared.data.Desc.{Desc}
use Rattle.ufs_model.specs.declared.data.Node.{Node}
use Rattle.ufs_model.specs.declared.data.Node.TheVariants.{Dir, File}
use Rattle.ufs_model.proofs.Facts.Orders.{path_total, path_same, fd_total, fd_same}
use Rattle.ufs_model.proofs.Facts.Lookups.{same_some, from_some, one_or_apart, inserted_here, inserted_else, removed_else, left_was, passes, from_passes}

-- a path names the file
abbrev pub Named : Paths → ℕ → Type 0
Named paths f = (path : List ℕ) × (map.get paths path ≡ Some (File f))

-- a descriptor is of the file
abbrev pub Opened : Fds → ℕ → Type 0
Opened fds f = (key : ℕ × ℕ) × (d : Desc) × (map.get fds key ≡ Some d) × (d.file ≡ Some f)

abbrev pub Held : Paths → Fds → ℕ → Type 0
Held paths fds f = Named paths f ⊎ Opened fds f

abbrev pub HasBytes : Files → ℕ → Type 0
HasBytes bytes f = is_some (map.get bytes f) ≡ true

pub bytes_there : (bytes : Files) (f : ℕ) (v : List ℕ) → HasBytes (map.insert bytes f v) f
bytes_there bytes f v = ap is_some (inserted_here nat_cmp_total nat_cmp-IsAntisymmetric bytes f v)

-- ---- live is held

pub node_is : (f : ℕ) (n : Node) → is_node_of f n ≡ true → n ≡ File f
node_is f Dir e = cc
node_is f (File g) e = ap File (eqb-true g f e)

pub number_is : (f : ℕ) (o : Option ℕ) → is_number f o ≡ true → o ≡ Some f
number_is f None e = cc
number_is f (Some g) e = ap Some (eqb-true g f e)

pub is_itself : (f : ℕ) → eqb f f ≡ true
is_itself f = eq-eqb f f refl

module _ (paths : Paths) (fds : Fds) (f : ℕ) where
  pub live_held : is_live paths fds f ≡ true → Held paths fds f
  live_held e = by (list_any (is_node_of f) (map.values paths)) refl e
    where
      by : (b : Bool) → list_any (is_node_of f) (map.values paths) ≡ b → (b || list_any (is_desc_of f) (map.values fds)) ≡ true → Held paths fds f
      by true is h = let at = passes path_total path_same (is_node_of f) paths is in inl (at.0, at.2 ∙ ap Some (node_is f at.1 at.3))
      by false is h = let at = passes fd_total fd_same (is_desc_of f) fds h in inr (at.0, at.1, at.2, number_is f at.1.file at.3)

  pub or_right : (a b : Bool) → b ≡ true → (a || b) ≡ true
  or_right true b e = refl
  or_right false b e = e

  pub held_live : Held paths fds f → is_live paths fds f ≡ true
  held_live (inl at) = ap (λ b. b || list_any (is_desc_of f) (map.values fds)) (from_passes path_total path_same (is_node_of f) paths (at.0, File f, at.1, is_itself f))
  held_live (inr at) = or_right _ _ (from_passes fd_total fd_same (is_desc_of f) fds (at.0, at.1, at.2, ap (is_number f) at.3 ∙ is_itself f))

pub alike : (a b : Bool) → (a ≡ true → b ≡ true) → (b ≡ true → a ≡ true) → a ≡ b
alike true true f g = refl
alike true false f g = sym (f refl)
alike false true f g = g refl
alike false false f g = refl

-- a tree by which files are held
pub from_held : (t : PosixTree) → IsNamespace (stands t.paths) (has_dir t.paths) → ((f : ℕ) → Held t.paths t.fds f → HasBytes t.bytes f) → ((f : ℕ) → HasBytes t.bytes f → Held t.paths t.fds f)
    → ((f : ℕ) → HasBytes t.bytes f → f < t.next) → IsTree t
from_held t space has held numbered = record {
  namespace = space;
  live = λ f. alike _ _ (λ e. held_live t.paths t.fds f (held f e)) (λ e. has f (live_held t.paths t.fds f e));
  numbered = numbered;
}

pub held_has : (t : PosixTree) → IsTree t → (f : ℕ) → Held t.paths t.fds f → HasBytes t.bytes f
held_has t is f h = is.live f ∙ held_live t.paths t.fds f h

pub has_held : (t : PosixTree) → IsTree t → (f : ℕ) → HasBytes t.bytes f → Held t.paths t.fds f
has_held t is f h = live_held t.paths t.fds f (sym (is.live f) ∙ h)

-- ---- a file may be live no more

-- a tree, but that one file may have bytes and be live no more
pub record IsTreeBut (t : PosixTree) (lost : Option ℕ) : Type 0 where
  pub namespace : IsNamespace (stands t.paths) (has_dir t.paths)
  pub has : (f : ℕ) → Held t.paths t.fds f → HasBytes t.bytes f
  pub held : (f : ℕ) → HasBytes t.bytes f → (lost ≡ Some f) ⊎ Held t.paths t.fds f
  pub numbered : (f : ℕ) → HasBytes t.bytes f → f < t.next

pub forget_lost : (t : PosixTree) (lost : Option ℕ) → IsTreeBut t lost → IsTree (forget t lost)
forget_lost t None is = from_held t is.namespace is.has (λ f h. by f (is.held f h)) is.numbered
  where
    by : (f : ℕ) → (None ≡ Some f) ⊎ Held t.paths t.fds f → Held t.paths t.fds f
    by f (inl e) = cc
    by f (inr h) = h
forget_lost t (Some g) is = by (is_live t.paths t.fds g) refl
  where
    still : is_live t.paths t.fds g ≡ true → (f : ℕ) → (Some g ≡ Some f) ⊎ Held t.paths t.fds f → Held t.paths t.fds f
    still live f (inl e) = subst (Held t.paths t.fds) (same_some g f e) (live_held t.paths t.fds g live)
    still live f (inr h) = h

    other : is_live t.paths t.fds g ≡ false → (f : ℕ) → Held t.paths t.fds f → f ≡ g → ⊥
    other gone f h e = let live = held_live t.paths t.fds g (subst (Held t.paths t.fds) e h) in cc

    left : (f : ℕ) → HasBytes (map.remove t.bytes g) f → (f ≡ g → ⊥) × HasBytes t.bytes f
    left f h =
        let some = from_some (map.get (map.remove t.bytes g) f) h in
        let was = left_was nat_cmp_total nat_cmp-IsAntisymmetric t.bytes g f some.0 some.1 in
        (was.0, ap is_some was.1)

    held' : (f : ℕ) → (f ≡ g → ⊥) → (Some g ≡ Some f) ⊎ Held t.paths t.fds f → Held t.paths t.fds f
    held' f not (inl e) = absurd (not (sym (same_some g f e)))
    held' f not (inr h) = h

    by : (b : Bool) → is_live t.paths t.fds g ≡ b → IsTree (forget t (Some g))
    by true e = rw e (from_held t is.namespace is.has (λ f h. still e f (is.held f h)) is.numbered)
    by false e = rw e (from_held (record t { bytes = map.remove t.bytes g }) is.namespace
        (λ f h. ap is_some (removed_else nat_cmp_total nat_cmp-IsAntisymmetric t.bytes g f (other e f h)) ∙ is.has f h)
        (λ f h. let was = left f h in held' f was.0 (is.held f was.1))
        (λ f h. is.numbered f (left f h).1))

-- ---- bytes

module _ (t : PosixTree) (is : IsTree t) where
  -- a file that has bytes gets others
  pub keeps_bytes : (f : ℕ) (v : List ℕ) → HasBytes t.bytes f → IsTree (with_bytes t (Some f) v)
  keeps_bytes f v has = record {
    namespace = is.namespace;
    live = λ g. same g (one_or_apart nat_cmp_total nat_cmp-IsAntisymmetric g f) ∙ is.live g;
    numbered = λ g h. is.numbered g (sym (same g (one_or_apart nat_cmp_total nat_cmp-IsAntisymmetric g f)) ∙ h);
  }
    where
      same : (g : ℕ) → (g ≡ f) ⊎ (g ≡ f → ⊥) → is_some (map.get (map.insert t.bytes f v) g) ≡ is_some (map.get t.bytes g)
      same g (inl e) =
          ap (λ k. is_some (map.get (map.insert t.bytes f v) k)) e ∙ ap is_some (inserted_here nat_cmp_total nat_cmp-IsAntisymmetric t.bytes f v)
          ∙ sym has ∙ sym (ap (λ k. is_some (map.get t.bytes k)) e)
      same g (inr not) = ap is_some (inserted_else nat_cmp_total nat_cmp-IsAntisymmetric t.bytes f v g not)

  -- ---- descriptors

  -- a descriptor of a live file, in the place of none or of one of the same file
  pub keeps_fd : (client fd : ℕ) (d : Desc) → ((f : ℕ) → d.file ≡ Some f → HasBytes t.bytes f) → ((old : Desc) → map.get t.fds (client, fd) ≡ Some old → d.file ≡ old.file) → IsTree (with_fd t client fd d)
  keeps_fd client fd d live same = from_held (with_fd t client fd d) is.namespace (λ f h. before f h) (λ f h. after f (has_held t is f h)) is.numbered
    where
      opened_before : (f : ℕ) (at : Opened (map.insert t.fds (client, fd) d) f) → (at.0 ≡ (client, fd)) ⊎ (at.0 ≡ (client, fd) → ⊥) → HasBytes t.bytes f
      opened_before f at (inl e) =
          let here = sym (ap (map.get (map.insert t.fds (client, fd) d)) e) ∙ at.2 in
          let it = same_some d at.1 (sym (inserted_here fd_total fd_same t.fds (client, fd) d) ∙ here) in
          live f (ap (λ (d : Desc). d.file) it ∙ at.3)
      opened_before f at (inr not) = held_has t is f (inr (at.0, at.1, sym (inserted_else fd_total fd_same t.fds (client, fd) d at.0 not) ∙ at.2, at.3))

      before : (f : ℕ) → Held t.paths (map.insert t.fds (client, fd) d) f → HasBytes t.bytes f
      before f (inl at) = held_has t is f (inl at)
      before f (inr at) = opened_before f at (one_or_apart fd_total fd_same at.0 (client, fd))

      opened_after : (f : ℕ) (at : Opened t.fds f) → (at.0 ≡ (client, fd)) ⊎ (at.0 ≡ (client, fd) → ⊥) → Held t.paths (map.insert t.fds (client, fd) d) f
      opened_after f at (inl e) = inr ((client, fd), d, inserted_here fd_total fd_same t.fds (client, fd) d, same at.1 (sym (ap (map.get t.fds) e) ∙ at.2) ∙ at.3)
      opened_after f at (inr not) = inr (at.0, at.1, inserted_else fd_total fd_same t.fds (client, fd) d at.0 not ∙ at.2, at.3)

      after : (f : ℕ) → Held t.paths t.fds f → Held t.paths (map.insert t.fds (client, fd) d) f
      after f (inl at) = inl at
      after f (inr at) = opened_after f at (one_or_apart fd_total fd_same at.0 (client, fd))

  -- a descriptor goes, and its file may be live no more
  pub keeps_closed : (client fd : ℕ) (d : Desc) → map.get t.fds (client, fd) ≡ Some d → IsTreeBut (record t { fds = map.remove t.fds (client, fd) }) d.file
  keeps_closed client fd d there = record {
    namespace = is.namespace;
    has = λ f h. held_has t is f (before f h);
    held = λ f h. after f (has_held t is f h);
    numbered = is.numbered;
  }
    where
      before : (f : ℕ) → Held t.paths (map.remove t.fds (client, fd)) f → Held t.paths t.fds f
      before f (inl at) = inl at
      before f (inr at) = inr (at.0, at.1, (left_was fd_total fd_same t.fds (client, fd) at.0 at.1 at.2).1, at.3)

      opened_after : (f : ℕ) (at : Opened t.fds f) → (at.0 ≡ (client, fd)) ⊎ (at.0 ≡ (client, fd) → ⊥) → (d.file ≡ Some f) ⊎ Held t.paths (map.remove t.fds (client, fd)) f
      opened_after f at (inl e) =
          let it = same_some d at.1 (sym there ∙ sym (ap (map.get t.fds) e) ∙ at.2) in
          inl (ap (λ (d : Desc). d.file) it ∙ at.3)
      opened_after f at (inr not) = inr (inr (at.0, at.1, removed_else fd_total fd_same t.fds (client, fd) at.0 not ∙ at.2, at.3))

      after : (f : ℕ) → Held t.paths t.fds f → (d.file ≡ Some f) ⊎ Held t.paths (map.remove t.fds (client, fd)) f
      after f (inl at) = inr (inl at)
      after f (inr at) = opened_after f at (one_or_apart fd_total fd_same at.0 (client, fd))

  -- ---- paths

  -- other paths, which name the same files but one that may be live no more
  pub keeps_paths : (paths : Paths) (lost : Option ℕ) → IsNamespace (stands paths) (has_dir paths) → ((f : ℕ) → Named paths f → Named t.paths f)
      → ((f : ℕ) → Named t.paths f → (lost ≡ Some f) ⊎ Named paths f) → IsTreeBut (record t { paths = paths }) lost
  keeps_paths paths lost space before after = record {
    namespace = space;
    has = λ f h. held_has t is f (held_before f h);
    held = λ f h. held_after f (has_held t is f h);
    numbered = is.numbered;
  }
    where
      held_before : (f : ℕ) → Held paths t.fds f → Held t.paths t.fds f
      held_before f (inl at) = inl (before f at)
      held_before f (inr at) = inr at

      named_after : (f : ℕ) → (lost ≡ Some f) ⊎ Named paths f → (lost ≡ Some f) ⊎ Held paths t.fds f
      named_after f (inl e) = inl e
      named_after f (inr at) = inr (inl at)

      held_after : (f : ℕ) → Held t.paths t.fds f → (lost ≡ Some f) ⊎ Held paths t.fds f
      held_after f (inl at) = named_after f (after f at)
      held_after f (inr at) = inr (inr at)
