-- The names' part goes on with the tree as paths are opened.
use Rattle.std.proofs.Common.{◌≡◌, ℕ, ◌+◌, ◌<◌, ◌⊎◌, inl, inr, List, [], Bool, true, false, cond, not, ◌||◌, length, Option, Some, None, is_some, replicate, arith, ap, refl, sym, subst, ◌∙◌}
use Rattle.std.proofs.lemmas.Bool.{false_from_ne_true}
use Rattle.std.specs.Prelude.{IsSome, slice_index_or}
use Rattle.std.specs.Cmp.{nat_cmp_total}
use Rattle.std.specs.FinMap as map
use Rattle.std.specs.FinMap.{nat_cmp-IsAntisymmetric}
use Rattle.ufs_model.specs.Paths.{components, whole_of, text_refusal}
use Rattle.ufs_model.specs.PosixTree.{PosixTree, Fds, IsTree}
use Rattle.ufs_model.specs.PosixTree as posix_tree
use Rattle.ufs_model.specs.Walk as walk
use Rattle.ufs_model.specs.Touched.{holds}
use Rattle.ufs_model.specs.Descriptors.{Mode, desc_of}
use Rattle.ufs_model.specs.Posix.{change, new_fd, with_fd, with_bytes, with_file, open_node}
use Rattle.ufs_model.specs.Refusals.{refusal}
use Rattle.ufs_model.specs.Laws.{KeepsTrees}
use Rattle.ufs_model.specs.declared.data.Node.{Node}
use Rattle.ufs_model.specs.declared.data.Node.TheVariants.{Dir, File}
use Rattle.ufs_model.specs.declared.data.Op.TheVariants as op
use Rattle.ufs_model.proofs.Facts.Lookups.{same_some, inserted_here, inserted_else}
use Rattle.ufs_model.proofs.Facts.Live.{held_has, number_is}
use Rattle.ufs_model.proofs.Facts.Held.{holder}
use Rattle.ufs_name_tree.specs.NameTable.{NameTable, file_at, node_at}
use Rattle.ufs_name_tree.specs.Nodes.{SetsNode}
use Rattle.ufs_files.specs.Files.{Files}
use Rattle.ufs_names.specs.NamesPart.{NamesPart, Holdings, IsNamesPart, AreInodesOf, holding_of, is_holder, is_kept, is_linked, unheld, with_holder}
use Rattle.ufs_names.specs.Stands.{Stands}
use Rattle.ufs_names.specs.Steps.{AddsFile, OpensFile}
use Rattle.ufs_names.specs.declared.holding.Holding.{Holding}
use Rattle.ufs_names.proofs.NameLists.{names_of}
use Rattle.ufs_names.proofs.WalkLinks.{met_at}
use Rattle.ufs_names.proofs.StandsLemmas.{stands_put}
use Rattle.ufs_names.proofs.OnceLemmas.{once_file, next_unnamed}
use Rattle.ufs_names.proofs.LinkLemmas.{is_named, number_apart, named_else, named_here, holding_put, holding_else}
use Rattle.ufs_names.proofs.HolderLemmas.{holds_opened, holds_else, client_set, client_else, from_marked}
use Rattle.ufs_names.proofs.SettleLemmas.{part_known, inodes_same, nobody}
use Rattle.ufs_names.proofs.AllowedLemmas.{open_allowed}
use Rattle.ufs_names.proofs.PartLemmas.{tree_after}

either : (a b : Bool) → b ≡ true → (a || b) ≡ true
either true b e = refl
either false b e = e

-- what a client holds is kept
with_kept : (h : Holding) (client : ℕ) → client < length h.clients → is_kept (with_holder h client) ≡ true
with_kept h client less = either h.linked _ (from_marked (with_holder h client).clients client (client_set h.clients client true less))

-- nobody holds a file whose number is still to be given
next_unheld : (t : PosixTree) → IsTree t → (c : ℕ) → holds t.fds c t.next ≡ false
next_unheld t tree c = false_from_ne_true _ (λ e.
    let at = holder t.fds c t.next e in
    let below = tree.numbered t.next (held_has t tree t.next (inr ((c, at.0), at.1, at.2, number_is t.next at.1.file at.3))) in
    omega (arith, below))

-- nothing is known yet of the file whose number is still to be given
pub next_untold : (n : NamesPart) (t : PosixTree) → IsNamesPart n t → map.get n.held n.next ≡ None
next_untold n t part = by (map.get n.held n.next) refl
  where
    by : (o : Option Holding) → map.get n.held n.next ≡ o → map.get n.held n.next ≡ None
    by None e = e
    by (Some h) e =
        let below = part.tree.numbered n.next (sym (part.told n.next) ∙ ap is_some e) in
        absurd (omega (arith, below, part.next))

-- ---- inodes

-- An inode that was no file's is that of a new file.
pub inodes_added : (tree tree' : NameTable) (held : Holdings) (k inode : ℕ) (h : Holding) → AreInodesOf tree held → map.get held k ≡ None → h.inode ≡ inode → file_at tree inode ≡ None → file_at tree' inode ≡ Some k
    → ((j : ℕ) → (j ≡ inode → ⊥) → file_at tree' j ≡ file_at tree j) → AreInodesOf tree' (map.insert held k h)
inodes_added tree tree' held k inode h inodes untold is unused numbered others = record {
  inode = λ f g at. of f g at (number_apart f k);
  live = λ i f at. live i f at (number_apart i inode);
  own = λ i f at. own i f at (number_apart i inode);
}
  where
    here : map.get (map.insert held k h) k ≡ Some h
    here = inserted_here nat_cmp_total nat_cmp-IsAntisymmetric held k h

    -- each other inode in use is as before
    apart : (j f : ℕ) → file_at tree j ≡ Some f → j ≡ inode → ⊥
    apart j f at e = let none : Some f ≡ None = sym at ∙ ap (file_at tree) e ∙ unused in cc

    told : (j f : ℕ) → file_at tree j ≡ Some f → f ≡ k → ⊥
    told j f at e = let none = ap (map.get held) e ∙ untold in let some = inodes.live j f at in cc

    of : (f : ℕ) (g : Holding) → map.get (map.insert held k h) f ≡ Some g → (f ≡ k) ⊎ (f ≡ k → ⊥) → file_at tree' g.inode ≡ Some f
    of f g at (inl e) =
        let same : h ≡ g = same_some h g (sym here ∙ sym (ap (map.get (map.insert held k h)) e) ∙ at) in
        ap (λ (g : Holding). file_at tree' g.inode) (sym same) ∙ ap (file_at tree') is ∙ numbered ∙ ap Some (sym e)
    of f g at (inr not) =
        let was = inodes.inode f g (sym (inserted_else nat_cmp_total nat_cmp-IsAntisymmetric held k h f not) ∙ at) in
        others g.inode (apart g.inode f was) ∙ was

    live : (i f : ℕ) → file_at tree' i ≡ Some f → (i ≡ inode) ⊎ (i ≡ inode → ⊥) → IsSome (map.get (map.insert held k h) f)
    live i f at (inl e) =
        let same : k ≡ f = same_some k f (sym numbered ∙ ap (file_at tree') (sym e) ∙ at) in
        ap (λ f. is_some (map.get (map.insert held k h) f)) (sym same) ∙ ap is_some here
    live i f at (inr not) =
        let was = sym (others i not) ∙ at in
        ap is_some (inserted_else nat_cmp_total nat_cmp-IsAntisymmetric held k h f (told i f was)) ∙ inodes.live i f was

    own : (i f : ℕ) → file_at tree' i ≡ Some f → (i ≡ inode) ⊎ (i ≡ inode → ⊥) → (holding_of (map.insert held k h) f).inode ≡ i
    own i f at (inl e) =
        let same : k ≡ f = same_some k f (sym numbered ∙ ap (file_at tree') (sym e) ∙ at) in
        ap (λ f. (holding_of (map.insert held k h) f).inode) (sym same) ∙ ap (λ (h : Holding). h.inode) (holding_put held k h) ∙ is ∙ sym e
    own i f at (inr not) =
        let was = sym (others i not) ∙ at in
        ap (λ (h : Holding). h.inode) (holding_else held k h f (told i f was)) ∙ inodes.own i f was

module _ (n : NamesPart) (t : PosixTree) (part : IsNamesPart n t) (client fd : ℕ) (free : map.get t.fds (client, fd) ≡ None) (m : Mode) where
  -- a descriptor of a directory comes
  opened_dir : IsTree (with_fd t client fd (desc_of m None)) → IsNamesPart n (with_fd t client fd (desc_of m None))
  opened_dir tree = record {
    tree = tree;
    paths = part.paths;
    once = part.once;
    next = part.next;
    linked = part.linked;
    held = λ f c. part.held f c ∙ sym (holds_else t.fds client fd (desc_of m None) c f (λ same e. cc) free);
    told = part.told;
    inodes = part.inodes;
  }

  module _ (f : ℕ) (less : client < length (holding_of n.held f).clients) (has : is_some (map.get t.bytes f) ≡ true) (new : NamesPart) (fs fs' : Files) (trunc : Bool) (opens : OpensFile n new fs fs' client trunc f) where
    abbrev held_now : Holding
    held_now = with_holder (holding_of n.held f) client

    kept : is_kept held_now ≡ true
    kept = with_kept (holding_of n.held f) client less

    -- a descriptor of a file, which may have other bytes
    opened_bytes : (bytes : posix_tree.Files) → ((g : ℕ) → (g ≡ f → ⊥) → is_some (map.get bytes g) ≡ is_some (map.get t.bytes g))
        → IsTree (record t { bytes = bytes; fds = map.insert t.fds (client, fd) (desc_of m (Some f)) })
        → IsNamesPart new (record t { bytes = bytes; fds = map.insert t.fds (client, fd) (desc_of m (Some f)) })
    opened_bytes bytes others tree =
        part_known n (record t { bytes = bytes; fds = map.insert t.fds (client, fd) (desc_of m (Some f)) }) f held_now (record {
          once = part.once;
          next = part.next;
          linked = λ g not. part.linked g;
          held = λ g c not. part.held g c ∙ sym (holds_else t.fds client fd (desc_of m (Some f)) c g (λ is e. not (sym (same_some f g e))) free);
          linked_here = part.linked f;
          held_here = λ c. held_here c (number_apart c client);
          told = λ g not. part.told g ∙ sym (others g not);
          inodes = part.inodes;
          here = part.told f ∙ has;
          inode = refl;
        }) new fs fs (record {
          held = opens.held ∙ ap (λ b. cond b (map.insert n.held f held_now) (map.remove n.held f)) (sym kept);
          next = opens.next;
          kept = λ _. record { numbers = λ i. ap (λ tree. file_at tree i) opens.tree; files = refl };
          gone = λ lost. let no : true ≡ false = sym kept ∙ lost in cc;
        }) (subst (λ tree. Stands (node_at tree) t.paths) (sym opens.tree) part.paths) kept tree
      where
        held_here : (c : ℕ) → (c ≡ client) ⊎ (c ≡ client → ⊥) → slice_index_or held_now.clients c false ≡ holds (map.insert t.fds (client, fd) (desc_of m (Some f))) c f
        held_here c (inl e) =
            ap (λ c. slice_index_or held_now.clients c false) e ∙ client_set (holding_of n.held f).clients client true less
            ∙ sym (holds_opened t.fds client fd (desc_of m (Some f)) f refl) ∙ ap (λ c. holds (map.insert t.fds (client, fd) (desc_of m (Some f))) c f) (sym e)
        held_here c (inr not) =
            client_else (holding_of n.held f).clients client c true not ∙ part.held f c ∙ sym (holds_else t.fds client fd (desc_of m (Some f)) c f (λ is e. not is) free)

    opened_file : (b : Bool) → IsTree (with_fd (cond {A = PosixTree} b (with_bytes t (Some f) []) t) client fd (desc_of m (Some f)))
        → IsNamesPart new (with_fd (cond {A = PosixTree} b (with_bytes t (Some f) []) t) client fd (desc_of m (Some f)))
    opened_file true tree = opened_bytes (map.insert t.bytes f []) (λ g not. ap is_some (inserted_else nat_cmp_total nat_cmp-IsAntisymmetric t.bytes f [] g not)) tree
    opened_file false tree = opened_bytes t.bytes (λ g not. refl) tree

  -- of a new file
  module _ (new : NamesPart) (fs fs' : Files) (adds : AddsFile n new fs fs' client) (path : List ℕ) (absent : walk.node_at t.paths path ≡ None) (text : text_refusal path ≡ None) (below : client < 16)
      (sets : SetsNode (node_at n.tree) (node_at new.tree) (components path) (Some (File n.next))) where
    -- what is known of the new file
    abbrev new_holding : Holding
    new_holding = with_holder (record unheld { inode = adds.inode; linked = true }) client

    abbrev fds : Fds
    fds = map.insert t.fds (client, fd) (desc_of m (Some t.next))

    made_file : IsTree (with_fd (with_file t (whole_of path)) client fd (desc_of m (Some t.next))) → IsNamesPart new (with_fd (with_file t (whole_of path)) client fd (desc_of m (Some t.next)))
    made_file tree = record {
      tree = tree;
      paths = stands_put (node_at n.tree) (node_at new.tree) t.paths part.paths (components path) (names_of path text) (File t.next)
          (subst (λ (k : ℕ). SetsNode (node_at n.tree) (node_at new.tree) (components path) (Some (File k))) part.next sets);
      once = once_file t.paths part.once (whole_of path) t.next (next_unnamed t part.tree);
      next = adds.next ∙ ap (λ k. k + 1) part.next;
      linked = λ f. ap (λ (m : Holdings). is_linked m f) adds.held ∙ linked f (number_apart f n.next);
      held = λ f c. ap (λ (m : Holdings). is_holder m f c) adds.held ∙ held f c (number_apart f n.next);
      told = λ f. ap (λ (m : Holdings). is_some (map.get m f)) adds.held ∙ told f (number_apart f n.next);
      inodes = inodes_same new.tree new.tree (map.insert n.held n.next new_holding) new.held (λ i. refl) adds.held
          (inodes_added n.tree new.tree n.held n.next adds.inode new_holding part.inodes (next_untold n t part) refl adds.unused adds.numbered adds.others);
    }
      where
        is_next : (f : ℕ) → f ≡ n.next → f ≡ t.next
        is_next f e = e ∙ part.next

        linked : (f : ℕ) → (f ≡ n.next) ⊎ (f ≡ n.next → ⊥) → is_linked (map.insert n.held n.next new_holding) f ≡ is_named (map.insert t.paths (whole_of path) (File t.next)) f
        linked f (inl e) =
            ap (is_linked (map.insert n.held n.next new_holding)) e ∙ ap (λ (h : Holding). h.linked) (holding_put n.held n.next new_holding)
            ∙ sym (named_here t.paths (whole_of path) t.next) ∙ ap (is_named (map.insert t.paths (whole_of path) (File t.next))) (sym (is_next f e))
        linked f (inr not) =
            ap (λ (h : Holding). h.linked) (holding_else n.held n.next new_holding f not) ∙ part.linked f
            ∙ sym (named_else t.paths (whole_of path) (File t.next) f absent (λ e. let same : t.next ≡ f = cc in not (sym (part.next ∙ same))))

        held_here : (c : ℕ) → (c ≡ client) ⊎ (c ≡ client → ⊥) → slice_index_or new_holding.clients c false ≡ holds fds c t.next
        held_here c (inl e) =
            ap (λ c. slice_index_or new_holding.clients c false) e ∙ client_set (replicate 16 false) client true below
            ∙ sym (holds_opened t.fds client fd (desc_of m (Some t.next)) t.next refl) ∙ ap (λ c. holds fds c t.next) (sym e)
        held_here c (inr not) =
            client_else (replicate 16 false) client c true not ∙ nobody 16 c ∙ sym (next_unheld t part.tree c)
            ∙ sym (holds_else t.fds client fd (desc_of m (Some t.next)) c t.next (λ is e. not is) free)

        held : (f c : ℕ) → (f ≡ n.next) ⊎ (f ≡ n.next → ⊥) → is_holder (map.insert n.held n.next new_holding) f c ≡ holds fds c f
        held f c (inl e) =
            ap (λ f. is_holder (map.insert n.held n.next new_holding) f c) e ∙ ap (λ (h : Holding). slice_index_or h.clients c false) (holding_put n.held n.next new_holding)
            ∙ held_here c (number_apart c client) ∙ ap (holds fds c) (sym (is_next f e))
        held f c (inr not) =
            ap (λ (h : Holding). slice_index_or h.clients c false) (holding_else n.held n.next new_holding f not) ∙ part.held f c
            ∙ sym (holds_else t.fds client fd (desc_of m (Some t.next)) c f (λ is e. not (sym (part.next ∙ same_some t.next f e))) free)

        told : (f : ℕ) → (f ≡ n.next) ⊎ (f ≡ n.next → ⊥) → is_some (map.get (map.insert n.held n.next new_holding) f) ≡ is_some (map.get (map.insert t.bytes t.next []) f)
        told f (inl e) =
            ap (λ f. is_some (map.get (map.insert n.held n.next new_holding) f)) e ∙ ap is_some (inserted_here nat_cmp_total nat_cmp-IsAntisymmetric n.held n.next new_holding)
            ∙ sym (ap is_some (inserted_here nat_cmp_total nat_cmp-IsAntisymmetric t.bytes t.next [])) ∙ ap (λ f. is_some (map.get (map.insert t.bytes t.next []) f)) (sym (is_next f e))
        told f (inr not) =
            ap is_some (inserted_else nat_cmp_total nat_cmp-IsAntisymmetric n.held n.next new_holding f not) ∙ part.told f
            ∙ sym (ap is_some (inserted_else nat_cmp_total nat_cmp-IsAntisymmetric t.bytes t.next [] f (λ e. not (e ∙ sym part.next))))

-- ---- a path is opened

module _ (keeps : KeepsTrees) (n : NamesPart) (t : PosixTree) (client : ℕ) (part : IsNamesPart n t) (path : List ℕ) (read write creat excl trunc append : Bool)
    (e : refusal t client (op.OpenFile path read write creat excl trunc append) ≡ None) where
  abbrev mode : Mode
  mode = record { read = read; write = write; creat = creat; excl = excl; trunc = trunc; append = append }

  abbrev open_at : Option Node → PosixTree
  open_at o = open_node t client (whole_of path) (record { read = read; write = write; creat = creat; excl = excl; trunc = trunc; append = append }) o

  text : text_refusal path ≡ None
  text = (open_allowed t client path read write creat excl trunc append e).0.text

  free : map.get t.fds (client, new_fd t client) ≡ None
  free = (open_allowed t client path read write creat excl trunc append e).1

  tree : IsTree (open_at (walk.node_at t.paths path))
  tree = tree_after keeps t client (op.OpenFile path read write creat excl trunc append) part.tree e

  at : (o : Option Node) → node_at n.tree (components path) ≡ o → walk.node_at t.paths path ≡ o
  at o is = met_at (node_at n.tree) t.paths part.paths path text ∙ is

  by_node : (n' : NamesPart) (o : Option Node) → node_at n.tree (components path) ≡ o → (IsTree (open_at o) → IsNamesPart n' (open_at o)) → IsNamesPart n' (open_at (walk.node_at t.paths path))
  by_node n' o is goes =
      subst (λ (o : Option Node). IsNamesPart n' (open_at o)) (sym (at o is)) (goes (subst (λ (o : Option Node). IsTree (open_at o)) (at o is) tree))

  pub part_open_dir : node_at n.tree (components path) ≡ Some Dir → IsNamesPart n (change t client (op.OpenFile path read write creat excl trunc append))
  part_open_dir is = by_node n (Some Dir) is (opened_dir n t part client (new_fd t client) free mode)

  pub part_open_file : (f : ℕ) → node_at n.tree (components path) ≡ Some (File f) → length (holding_of n.held f).clients ≡ 16 → client < 16 → is_some (map.get t.bytes f) ≡ true
      → (new : NamesPart) (fs fs' : Files) → OpensFile n new fs fs' client trunc f → IsNamesPart new (change t client (op.OpenFile path read write creat excl trunc append))
  part_open_file f is sixteen less has new fs fs' opens =
      by_node new (Some (File f)) is (opened_file n t part client (new_fd t client) free mode f (omega (arith, sixteen)) has new fs fs' trunc opens trunc)

  pub part_open_new : (new : NamesPart) (fs fs' : Files) → AddsFile n new fs fs' client → node_at n.tree (components path) ≡ None → client < 16 → SetsNode (node_at n.tree) (node_at new.tree) (components path) (Some (File n.next))
      → IsNamesPart new (change t client (op.OpenFile path read write creat excl trunc append))
  part_open_new new fs fs' adds is less sets = by_node new None is (made_file n t part client (new_fd t client) free mode new fs fs' adds path (at None is) text less sets)
