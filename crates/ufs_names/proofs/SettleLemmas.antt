-- A file that nothing keeps any more goes from the part as it goes from the tree.
use Rattle.std.proofs.Common.{◌≡◌, ℕ, ◌⊎◌, inl, inr, zero, suc, Bool, true, false, cond, ◌||◌, Option, Some, None, is_some, unwrap_or, replicate, ap, refl, sym, ◌∙◌}
use Rattle.std.proofs.lemmas.Bool.{false_from_ne_true}
use Rattle.std.specs.Prelude.{slice_index_or}
use Rattle.std.specs.Cmp.{nat_cmp_total}
use Rattle.std.specs.List.{list_any}
use Rattle.std.specs.FinMap as map
use Rattle.std.specs.FinMap.{nat_cmp-IsAntisymmetric}
use Rattle.ufs_files.specs.Files.{Files}
use Rattle.ufs_model.specs.PosixTree.{PosixTree, Paths, IsTree, is_live}
use Rattle.ufs_model.specs.Touched.{holds}
use Rattle.ufs_model.specs.Posix.{forget}
use Rattle.ufs_model.proofs.Facts.Lookups.{same_some, from_some, inserted_here, inserted_else, removed_here, removed_else, left_was}
use Rattle.ufs_name_tree.specs.NameTable.{NameTable, file_at, node_at}
use Rattle.ufs_names.specs.Stands.{Stands}
use Rattle.ufs_names.specs.NamesPart.{NamesPart, Holdings, IsNamesPart, AreInodesOf, IsNamedOnce, is_linked, is_holder, is_kept, unheld, holding_of, without_name}
use Rattle.ufs_names.specs.Steps.{KeepsFiles, LosesName, Settles}
use Rattle.ufs_names.specs.declared.holding.Holding.{Holding}
use Rattle.ufs_names.proofs.LinkLemmas.{is_named, number_apart, holding_put, holding_else, holding_gone, holding_left}
use Rattle.ufs_names.proofs.HolderLemmas.{from_marked, kept_is_live}

-- ---- inodes of files

-- what is known of a file that is told
pub holding_is : (held : Holdings) (f : ℕ) (h : Holding) → map.get held f ≡ Some h → holding_of held f ≡ h
holding_is held f h at = ap (λ o. unwrap_or o unheld) at

-- a file that is told has the inode that is told of it
pub numbered_here : (tree : NameTable) (held : Holdings) → AreInodesOf tree held → (g : ℕ) → is_some (map.get held g) ≡ true → file_at tree (holding_of held g).inode ≡ Some g
numbered_here tree held inodes g here =
    let h = from_some (map.get held g) here in
    ap (λ (h : Holding). file_at tree h.inode) (holding_is held g h.0 h.1) ∙ inodes.inode g h.0 h.1

-- the same numbers and the same knowledge
pub inodes_same : (tree tree' : NameTable) (held held' : Holdings) → ((i : ℕ) → file_at tree' i ≡ file_at tree i) → held' ≡ held → AreInodesOf tree held → AreInodesOf tree' held'
inodes_same tree tree' held held' numbers same inodes = record {
  inode = λ f h at. numbers h.inode ∙ inodes.inode f h (sym (ap (λ (m : Holdings). map.get m f) same) ∙ at);
  live = λ i f at. ap (λ (m : Holdings). is_some (map.get m f)) same ∙ inodes.live i f (sym (numbers i) ∙ at);
  own = λ i f at. ap (λ (m : Holdings). (holding_of m f).inode) same ∙ inodes.own i f (sym (numbers i) ∙ at);
}

module _ (tree tree' : NameTable) (held : Holdings) (inodes : AreInodesOf tree held) (g : ℕ) (h : Holding) (here : is_some (map.get held g) ≡ true) (same : h.inode ≡ (holding_of held g).inode) where
  numbered : file_at tree h.inode ≡ Some g
  numbered = ap (file_at tree) same ∙ numbered_here tree held inodes g here

  -- this is known of the file now
  pub inodes_known : ((i : ℕ) → file_at tree' i ≡ file_at tree i) → AreInodesOf tree' (map.insert held g h)
  inodes_known numbers = record {
    inode = λ f k at. inode f k at (number_apart f g);
    live = λ i f at. live i f at (number_apart f g);
    own = λ i f at. own i f at (number_apart f g);
  }
    where
      inode : (f : ℕ) (k : Holding) → map.get (map.insert held g h) f ≡ Some k → (f ≡ g) ⊎ (f ≡ g → ⊥) → file_at tree' k.inode ≡ Some f
      inode f k at (inl e) =
          let known : h ≡ k = same_some h k (sym (inserted_here nat_cmp_total nat_cmp-IsAntisymmetric held g h) ∙ sym (ap (map.get (map.insert held g h)) e) ∙ at) in
          numbers k.inode ∙ ap (λ (k : Holding). file_at tree k.inode) (sym known) ∙ numbered ∙ ap Some (sym e)
      inode f k at (inr not) = numbers k.inode ∙ inodes.inode f k (sym (inserted_else nat_cmp_total nat_cmp-IsAntisymmetric held g h f not) ∙ at)

      live : (i f : ℕ) → file_at tree' i ≡ Some f → (f ≡ g) ⊎ (f ≡ g → ⊥) → is_some (map.get (map.insert held g h) f) ≡ true
      live i f at (inl e) = ap (λ f. is_some (map.get (map.insert held g h) f)) e ∙ ap is_some (inserted_here nat_cmp_total nat_cmp-IsAntisymmetric held g h)
      live i f at (inr not) = ap is_some (inserted_else nat_cmp_total nat_cmp-IsAntisymmetric held g h f not) ∙ inodes.live i f (sym (numbers i) ∙ at)

      own : (i f : ℕ) → file_at tree' i ≡ Some f → (f ≡ g) ⊎ (f ≡ g → ⊥) → (holding_of (map.insert held g h) f).inode ≡ i
      own i f at (inl e) =
          ap (λ f. (holding_of (map.insert held g h) f).inode) e ∙ ap (λ (h : Holding). h.inode) (holding_put held g h) ∙ same
          ∙ inodes.own i g (sym (numbers i) ∙ at ∙ ap Some e)
      own i f at (inr not) = ap (λ (h : Holding). h.inode) (holding_else held g h f not) ∙ inodes.own i f (sym (numbers i) ∙ at)

  -- the file goes
  pub inodes_gone : file_at tree' h.inode ≡ None → ((i : ℕ) → (i ≡ h.inode → ⊥) → file_at tree' i ≡ file_at tree i) → AreInodesOf tree' (map.remove held g)
  inodes_gone gone others = record {
    inode = λ f k at. let was = left_was nat_cmp_total nat_cmp-IsAntisymmetric held g f k at in
        let at' = inodes.inode f k was.1 in
        others k.inode (λ e. was.0 (same_some f g (sym at' ∙ ap (file_at tree) e ∙ numbered))) ∙ at';
    live = λ i f at. ap is_some (removed_else nat_cmp_total nat_cmp-IsAntisymmetric held g f (other i f at)) ∙ inodes.live i f (before i f at);
    own = λ i f at. ap (λ (h : Holding). h.inode) (holding_left held g f (other i f at)) ∙ inodes.own i f (before i f at);
  }
    where
      elsewhere : (i f : ℕ) → file_at tree' i ≡ Some f → i ≡ h.inode → ⊥
      elsewhere i f at e = let none : Some f ≡ None = sym at ∙ ap (file_at tree') e ∙ gone in cc

      before : (i f : ℕ) → file_at tree' i ≡ Some f → file_at tree i ≡ Some f
      before i f at = sym (others i (elsewhere i f at)) ∙ at

      other : (i f : ℕ) → file_at tree' i ≡ Some f → f ≡ g → ⊥
      other i f at e = elsewhere i f at (sym (inodes.own i g (before i f at ∙ ap Some e)) ∙ sym same)

-- ---- one file

-- The part is that of the tree, but what is known of one file, which is this now.
pub record IsPartBut (n : NamesPart) (t : PosixTree) (g : ℕ) (h : Holding) : Type 0 where
  pub once : IsNamedOnce t.paths
  pub next : n.next ≡ t.next
  pub linked : (f : ℕ) → (f ≡ g → ⊥) → is_linked n.held f ≡ is_named t.paths f
  pub held : (f client : ℕ) → (f ≡ g → ⊥) → is_holder n.held f client ≡ holds t.fds client f
  pub linked_here : h.linked ≡ is_named t.paths g
  pub held_here : (client : ℕ) → slice_index_or h.clients client false ≡ holds t.fds client g
  pub told : (f : ℕ) → (f ≡ g → ⊥) → is_some (map.get n.held f) ≡ is_some (map.get t.bytes f)
  pub inodes : AreInodesOf n.tree n.held
  pub here : is_some (map.get n.held g) ≡ true
  pub inode : h.inode ≡ (holding_of n.held g).inode

pub none_of : (a b : Bool) → (a || b) ≡ false → (a ≡ false) × (b ≡ false)
none_of true b e = cc
none_of false b e = (refl, e)

-- nobody holds a file of which nothing is known
pub nobody : (count client : ℕ) → slice_index_or (replicate count false) client false ≡ false
nobody zero client = refl
nobody (suc count) zero = refl
nobody (suc count) (suc client) = nobody count client

module _ (n : NamesPart) (t : PosixTree) (g : ℕ) (h : Holding) (is : IsPartBut n t g h) (new : NamesPart) (fs fs' : Files) (settles : Settles n new fs fs' g h) (paths : Stands (node_at new.tree) t.paths) where
  -- this is known of the file from now on
  pub part_known : is_kept h ≡ true → IsTree t → IsNamesPart new t
  part_known kept tree = record {
    tree = tree;
    paths = paths;
    once = is.once;
    next = settles.next ∙ is.next;
    linked = λ f. ap (λ (m : Holdings). is_linked m f) known ∙ linked f (number_apart f g);
    held = λ f client. ap (λ (m : Holdings). is_holder m f client) known ∙ held f client (number_apart f g);
    told = λ f. ap (λ (m : Holdings). is_some (map.get m f)) known ∙ told f (number_apart f g);
    inodes = inodes_same new.tree new.tree (map.insert n.held g h) new.held (λ i. refl) known (inodes_known n.tree new.tree n.held is.inodes g h is.here is.inode (settles.kept kept).numbers);
  }
    where
      known : new.held ≡ map.insert n.held g h
      known = settles.held ∙ ap (λ b. cond b (map.insert n.held g h) (map.remove n.held g)) kept

      linked : (f : ℕ) → (f ≡ g) ⊎ (f ≡ g → ⊥) → is_linked (map.insert n.held g h) f ≡ is_named t.paths f
      linked f (inl e) =
          ap (is_linked (map.insert n.held g h)) e ∙ ap (λ (h : Holding). h.linked) (holding_put n.held g h) ∙ is.linked_here ∙ ap (is_named t.paths) (sym e)
      linked f (inr not) = ap (λ (h : Holding). h.linked) (holding_else n.held g h f not) ∙ is.linked f not

      held : (f client : ℕ) → (f ≡ g) ⊎ (f ≡ g → ⊥) → is_holder (map.insert n.held g h) f client ≡ holds t.fds client f
      held f client (inl e) =
          ap (λ f. is_holder (map.insert n.held g h) f client) e ∙ ap (λ (h : Holding). slice_index_or h.clients client false) (holding_put n.held g h) ∙ is.held_here client
          ∙ ap (holds t.fds client) (sym e)
      held f client (inr not) = ap (λ (h : Holding). slice_index_or h.clients client false) (holding_else n.held g h f not) ∙ is.held f client not

      has_bytes : is_some (map.get t.bytes g) ≡ true
      has_bytes = tree.live g ∙ sym (kept_is_live h t.paths t.fds g is.linked_here is.held_here) ∙ kept

      told : (f : ℕ) → (f ≡ g) ⊎ (f ≡ g → ⊥) → is_some (map.get (map.insert n.held g h) f) ≡ is_some (map.get t.bytes f)
      told f (inl e) =
          ap (λ f. is_some (map.get (map.insert n.held g h) f)) e ∙ ap is_some (inserted_here nat_cmp_total nat_cmp-IsAntisymmetric n.held g h)
          ∙ sym has_bytes ∙ ap (λ f. is_some (map.get t.bytes f)) (sym e)
      told f (inr not) = ap is_some (inserted_else nat_cmp_total nat_cmp-IsAntisymmetric n.held g h f not) ∙ is.told f not

  part_forgotten : is_kept h ≡ false → IsTree (record t { bytes = map.remove t.bytes g }) → IsNamesPart new (record t { bytes = map.remove t.bytes g })
  part_forgotten lost tree = record {
    tree = tree;
    paths = paths;
    once = is.once;
    next = settles.next ∙ is.next;
    linked = λ f. ap (λ (m : Holdings). is_linked m f) known ∙ linked f (number_apart f g);
    held = λ f client. ap (λ (m : Holdings). is_holder m f client) known ∙ held f client (number_apart f g);
    told = λ f. ap (λ (m : Holdings). is_some (map.get m f)) known ∙ told f (number_apart f g);
    inodes = inodes_same new.tree new.tree (map.remove n.held g) new.held (λ i. refl) known (inodes_gone n.tree new.tree n.held is.inodes g h is.here is.inode (settles.gone lost).unnumbered (settles.gone lost).others);
  }
    where
      known : new.held ≡ map.remove n.held g
      known = settles.held ∙ ap (λ b. cond b (map.insert n.held g h) (map.remove n.held g)) lost

      neither : (h.linked ≡ false) × (list_any (λ b. b) h.clients ≡ false)
      neither = none_of h.linked (list_any (λ b. b) h.clients) lost

      unmarked : (client : ℕ) → slice_index_or h.clients client false ≡ false
      unmarked client = false_from_ne_true _ (λ e. let some = from_marked h.clients client e in let none = neither.1 in cc)

      linked : (f : ℕ) → (f ≡ g) ⊎ (f ≡ g → ⊥) → is_linked (map.remove n.held g) f ≡ is_named t.paths f
      linked f (inl e) =
          ap (is_linked (map.remove n.held g)) e ∙ ap (λ (h : Holding). h.linked) (holding_gone n.held g) ∙ sym neither.0 ∙ is.linked_here ∙ ap (is_named t.paths) (sym e)
      linked f (inr not) = ap (λ (h : Holding). h.linked) (holding_left n.held g f not) ∙ is.linked f not

      held : (f client : ℕ) → (f ≡ g) ⊎ (f ≡ g → ⊥) → is_holder (map.remove n.held g) f client ≡ holds t.fds client f
      held f client (inl e) =
          ap (λ f. is_holder (map.remove n.held g) f client) e ∙ ap (λ (h : Holding). slice_index_or h.clients client false) (holding_gone n.held g) ∙ nobody 16 client
          ∙ sym (unmarked client) ∙ is.held_here client ∙ ap (holds t.fds client) (sym e)
      held f client (inr not) = ap (λ (h : Holding). slice_index_or h.clients client false) (holding_left n.held g f not) ∙ is.held f client not

      told : (f : ℕ) → (f ≡ g) ⊎ (f ≡ g → ⊥) → is_some (map.get (map.remove n.held g) f) ≡ is_some (map.get (map.remove t.bytes g) f)
      told f (inl e) =
          ap (λ f. is_some (map.get (map.remove n.held g) f)) e ∙ ap is_some (removed_here nat_cmp_total nat_cmp-IsAntisymmetric n.held g)
          ∙ sym (ap is_some (removed_here nat_cmp_total nat_cmp-IsAntisymmetric t.bytes g)) ∙ ap (λ f. is_some (map.get (map.remove t.bytes g) f)) (sym e)
      told f (inr not) =
          ap is_some (removed_else nat_cmp_total nat_cmp-IsAntisymmetric n.held g f not) ∙ is.told f not
          ∙ sym (ap is_some (removed_else nat_cmp_total nat_cmp-IsAntisymmetric t.bytes g f not))

  pub part_settled : IsTree (forget t (Some g)) → IsNamesPart new (forget t (Some g))
  part_settled tree = by (is_kept h) (is_live t.paths t.fds g) refl (kept_is_live h t.paths t.fds g is.linked_here is.held_here) tree
    where
      by : (a b : Bool) → is_kept h ≡ a → a ≡ b → IsTree (cond {A = PosixTree} b t (record t { bytes = map.remove t.bytes g })) → IsNamesPart new (cond {A = PosixTree} b t (record t { bytes = map.remove t.bytes g }))
      by true true e same tree = part_known e tree
      by true false e same tree = cc
      by false true e same tree = cc
      by false false e same tree = part_forgotten e tree

-- ---- other paths

module _ (n : NamesPart) (t : PosixTree) (part : IsNamesPart n t) (new : NamesPart) (fs fs' : Files) (paths : Paths) (stands : Stands (node_at new.tree) paths) (once : IsNamedOnce paths) where
  -- the same files are named
  pub part_paths : ((f : ℕ) → is_named paths f ≡ is_named t.paths f) → KeepsFiles n new fs fs' → IsTree (record t { paths = paths }) → IsNamesPart new (record t { paths = paths })
  part_paths same keeps tree = record {
    tree = tree;
    paths = stands;
    once = once;
    next = keeps.next ∙ part.next;
    linked = λ f. ap (λ (m : Holdings). is_linked m f) keeps.held ∙ part.linked f ∙ sym (same f);
    held = λ f client. ap (λ (m : Holdings). is_holder m f client) keeps.held ∙ part.held f client;
    told = λ f. ap (λ (m : Holdings). is_some (map.get m f)) keeps.held ∙ part.told f;
    inodes = inodes_same n.tree new.tree n.held new.held keeps.stays.numbers keeps.held part.inodes;
  }

  -- the same but one, which has bytes
  pub part_unnamed : (lost : Option ℕ) → ((f : ℕ) → lost ≡ Some f → is_named paths f ≡ false) → ((f : ℕ) → (lost ≡ Some f → ⊥) → is_named paths f ≡ is_named t.paths f)
      → ((f : ℕ) → lost ≡ Some f → is_some (map.get t.bytes f) ≡ true) → LosesName n new fs fs' lost
      → IsTree (forget (record t { paths = paths }) lost) → IsNamesPart new (forget (record t { paths = paths }) lost)
  part_unnamed None gone same has keeps tree = part_paths (λ f. same f (λ e. cc)) keeps tree
  part_unnamed (Some g) gone same has settles tree = part_settled n (record t { paths = paths }) g (without_name (holding_of n.held g)) (record {
    once = once;
    next = part.next;
    linked = λ f not. part.linked f ∙ sym (same f (λ e. not (sym (same_some g f e))));
    held = λ f client not. part.held f client;
    linked_here = sym (gone g refl);
    held_here = part.held g;
    told = λ f not. part.told f;
    inodes = part.inodes;
    here = part.told g ∙ has g refl;
    inode = refl;
  }) new fs fs' settles stands tree
