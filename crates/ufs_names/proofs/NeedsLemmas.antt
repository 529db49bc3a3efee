-- Which live files a request touches, by what the names know of them.
use Rattle.std.proofs.Common.{◌≡◌, ℕ, zero, suc, ◌<◌, ◌≤◌, ◌⊎◌, length, inl, inr, List, [], ◌∷◌, ◌++◌, Bool, true, false, cond, ◌||◌, map, Option, Some, None, is_some, is_none, unwrap_or, arith, ap, refl, sym, subst, ◌∙◌, bytes_eq, append_assoc}
use Rattle.std.specs.Prelude.{IsSome, Contains}
use Rattle.std.specs.Cmp.{nat_cmp_total, eq_by_cmp_equiv}
use Rattle.std.specs.FinMap as fin
use Rattle.std.specs.FinMap.{nat_cmp-IsAntisymmetric, contains_key-keys, get-empty}
use Rattle.std.specs.List.{list_any}
use Rattle.std.specs.List.Sorted.{IsStrictlyIncreasing}
use Rattle.std.specs.Option.{option_map}
use Rattle.std.specs.Ordering.{nat_cmp, eq_by_cmp}
use Rattle.std.proofs.lemmas.Map.Views.{list_any-from_Contains, Contains-from_any}
use Rattle.ufs_base.specs.Choices.{first_of, refused_if}
use Rattle.ufs_dir_tree.specs.DirTable.{found_at}
use Rattle.ufs_dir_tree.specs.declared.found.Found.{Found}
use Rattle.ufs_files.specs.Files.{Files, AreSizedAs}
use Rattle.ufs_model.specs.Asks.{IsAsk, desc_of_fd, fd_named, file_in, is_last, is_last_of}
use Rattle.ufs_model.specs.Descriptors.{closed}
use Rattle.ufs_model.specs.Directories.{renamed}
use Rattle.ufs_model.specs.Paths.{components, text_refusal, whole_path, whole_of}
use Rattle.ufs_model.specs.Posix.{forget}
use Rattle.ufs_model.specs.PosixTree.{PosixTree, Paths, IsNamespace, IsTree, has_dir, is_live, stands}
use Rattle.ufs_model.specs.Refusals.{own_refusal, refusal, tree_refusal}
use Rattle.ufs_model.specs.Touched as touched
use Rattle.ufs_model.specs.Touched.{dropped_part, file_part, holds, opened_part, reached, replaced_part, touched_parts}
use Rattle.ufs_model.specs.Walk as walk
use Rattle.ufs_model.specs.Walk.{dir_refusal, file_of, walk_refusal, walk_refusal_from}
use Rattle.ufs_model.specs.declared.data.Ask.{Ask}
use Rattle.ufs_model.specs.declared.data.Desc.{Desc}
use Rattle.ufs_model.specs.declared.data.Errno.{Errno}
use Rattle.ufs_model.specs.declared.data.Errno.TheVariants.{Enoent}
use Rattle.ufs_model.specs.declared.data.Node.{Node}
use Rattle.ufs_model.specs.declared.data.Node.TheVariants.{Dir, File}
use Rattle.ufs_model.specs.declared.data.Op.{Op}
use Rattle.ufs_model.specs.declared.data.Op.TheVariants as op
use Rattle.ufs_model.specs.declared.data.PartName.{PartName}
use Rattle.ufs_model.specs.declared.data.PartName.TheVariants as part
use Rattle.ufs_model.proofs.Facts.Held.{holder}
use Rattle.ufs_model.proofs.Facts.Live.{held_live, number_is}
use Rattle.ufs_model.proofs.Facts.Lookups.{one_key, same_some}
use Rattle.ufs_model.proofs.Facts.Pieces.{ArePlain, bytes_same, components_plain}
use Rattle.ufs_model.proofs.Facts.Walks.{dir_above, is_dir-some}
use Rattle.ufs_model.proofs.NewNameLemmas.{rename_allowed}
use Rattle.ufs_name_tree.specs.NameTable.{NameTable, node_at, node_of}
use Rattle.ufs_names.specs.Calls.{AreGathered}
use Rattle.ufs_names.specs.NamesPart.{NamesPart, IsNamesPart, holding_of, is_kept, without_holder, without_name}
use Rattle.ufs_names.specs.Needs.{AreFilesIn, AreHere, IsFileIn, listed, needed_found, unkept, unkept_closed, unkept_unnamed}
use Rattle.ufs_names.specs.PathCalls.{path_asked}
use Rattle.ufs_names.specs.declared.holding.Holding.{Holding}
use Rattle.ufs_names.proofs.ClosePartLemmas.{closed_not, dead_now, has_bytes, open_not}
use Rattle.ufs_names.proofs.GatheredLemmas.{forget_live}
use Rattle.ufs_names.proofs.HolderLemmas.{kept_is_live}
use Rattle.ufs_names.proofs.LinkLemmas.{is_named, unnamed_gone}
use Rattle.ufs_names.proofs.PartLemmas.{stood_has}
use Rattle.ufs_names.proofs.PathRefusals.{path_of, text_passed}
use Rattle.ufs_names.proofs.RenameServed.{renamed_unnamed}
use Rattle.ufs_names.proofs.WalkLinks.{met_at}

-- ---- lists of parts

module _ (t : PosixTree) where
  pub nothing : IsFileIn t [] None
  nothing f = (λ e. cc, λ h. absurd h.0)

  -- the names are no file
  pub beside_names : (parts : List PartName) (file : Option ℕ) → IsFileIn t parts file → IsFileIn t (part.Names ∷ parts) file
  beside_names parts file is f = (λ e. let h = (is f).0 e in (inr h.0, h.1), λ h. by h.0 h.1)
    where
      by : (part.File f ≡ part.Names) ⊎ touched.IsPartOf parts (part.File f) → IsSome (fin.get t.bytes f) → file ≡ Some f
      by (inl e) has = cc
      by (inr at) has = (is f).1 (at, has)

  pub one_file : (file : Option ℕ) → ((f : ℕ) → file ≡ Some f → IsSome (fin.get t.bytes f)) → IsFileIn t (file_part file) file
  one_file None has f = nothing f
  one_file (Some g) has f = (λ e. (inl (ap (λ o. part.File (unwrap_or o 0)) (sym e)), has f e), λ h. by h.0)
    where
      by : (part.File f ≡ part.File g) ⊎ ⊥ → Some g ≡ Some f
      by (inl e) = let same : f ≡ g = cc in ap Some (sym same)
      by (inr never) = absurd never

  -- a file that is still to be made isn't live
  none_made : IsTree t → IsFileIn t (part.File t.next ∷ []) None
  none_made tree f = (λ e. cc, λ h. by h.0 h.1)
    where
      by : (part.File f ≡ part.File t.next) ⊎ ⊥ → IsSome (fin.get t.bytes f) → None ≡ Some f
      by (inl e) has =
          let same : f ≡ t.next = cc in
          let less : f < t.next = tree.numbered f has in
          absurd (omega (arith, same, less))
      by (inr never) has = absurd never

  -- what an `open` cuts
  cut_needs : IsTree t → (node : Option Node) → ((f : ℕ) → file_of node ≡ Some f → IsSome (fin.get t.bytes f)) → (trunc : Bool)
      → IsFileIn t (opened_part t.next (is_some node) (file_of node) trunc) (cond {A = Option ℕ} trunc (file_of node) None)
  cut_needs tree None has true = none_made tree
  cut_needs tree None has false = none_made tree
  cut_needs tree (Some Dir) has true = nothing
  cut_needs tree (Some Dir) has false = nothing
  cut_needs tree (Some (File g)) has true = one_file (Some g) has
  cut_needs tree (Some (File g)) has false = nothing

  -- what goes
  drop_needs : (v : PosixTree) (g : ℕ) (h : Holding) → IsSome (fin.get t.bytes g) → is_kept h ≡ is_live v.paths v.fds g → IsFileIn t (dropped_part (forget v (Some g)) (Some g)) (unkept h g)
  drop_needs v g h has live =
      subst (λ (b : Bool). IsFileIn t (cond {A = List PartName} b [] (part.File g ∷ [])) (unkept h g)) (sym (forget_live v g g))
      (subst (λ (b : Bool). IsFileIn t (cond {A = List PartName} b [] (part.File g ∷ [])) (unkept h g)) live (by (is_kept h)))
    where
      by : (b : Bool) → IsFileIn t (cond {A = List PartName} b [] (part.File g ∷ [])) (cond {A = Option ℕ} b None (Some g))
      by true = nothing
      by false = one_file (Some g) (λ f e. subst (λ f. IsSome (fin.get t.bytes f)) (same_some g f e) has)

  -- what stays
  live_needs : (v : PosixTree) (file : Option ℕ) → ((f : ℕ) → file ≡ Some f → is_live v.paths v.fds f ≡ true) → IsFileIn t (dropped_part v file) None
  live_needs v None live = nothing
  live_needs v (Some g) live = subst (λ (b : Bool). IsFileIn t (cond {A = List PartName} b [] (part.File g ∷ [])) None) (sym (live g refl)) nothing

-- ---- what stands is reached

-- the walk to a path that stands isn't refused
walk_reaches : (paths : Paths) → IsNamespace (stands paths) (has_dir paths) → (above names : List (List ℕ)) → ArePlain (above ++ names) → stands paths (whole_path (above ++ names)) ≡ true → walk_refusal_from paths above names ≡ None
walk_reaches paths s above [] plain there = refl
walk_reaches paths s above (name ∷ []) plain there = refl
walk_reaches paths s above (name ∷ next ∷ names) plain there =
    let e : (above ++ name ∷ []) ++ next ∷ names ≡ above ++ name ∷ next ∷ names = append_assoc above (name ∷ []) (next ∷ names) in
    let plain' : ArePlain ((above ++ name ∷ []) ++ next ∷ names) = subst ArePlain (sym e) plain in
    let there' : stands paths (whole_path ((above ++ name ∷ []) ++ next ∷ names)) ≡ true = ap (λ names. stands paths (whole_path names)) e ∙ there in
    let dir = is_dir-some (fin.get paths (whole_path (above ++ name ∷ []))) (dir_above paths s (above ++ name ∷ []) next names plain' there') in
    ap (λ o. first_of (dir_refusal o) (walk_refusal_from paths (above ++ name ∷ []) (next ∷ names))) dir
    ∙ walk_reaches paths s (above ++ name ∷ []) (next ∷ names) plain' there'

module _ (n : NamesPart) (t : PosixTree) (is : IsNamesPart n t) (client : ℕ) where
  -- what stands has bytes
  stood : (whole : List ℕ) (f : ℕ) → file_of (fin.get t.paths whole) ≡ Some f → IsSome (fin.get t.bytes f)
  stood whole f e = stood_has t is.tree whole f e

  -- the file of what has no name any more
  lost_needs : (paths : Paths) (file : Option ℕ) → ((f : ℕ) → file ≡ Some f → IsSome (fin.get t.bytes f)) → ((f : ℕ) → file ≡ Some f → is_named paths f ≡ false)
      → IsFileIn t (dropped_part (forget (record t { paths = paths }) file) file) (unkept_unnamed n.held file)
  lost_needs paths None has unnamed = nothing t
  lost_needs paths (Some g) has unnamed =
      let h = without_name (holding_of n.held g) in
      drop_needs t (record t { paths = paths }) g h (has g refl) (kept_is_live h paths t.fds g (sym (unnamed g refl)) (is.held g))

  -- ---- a request on one path

  -- what isn't there
  missing : (path : List ℕ) → text_refusal path ≡ None → (e : Errno) → refusal t client (op.Stat path) ≡ Some e → walk.node_at t.paths path ≡ None
  missing path text e refused = by (walk.node_at t.paths path) refl
    where
      by : (o : Option Node) → walk.node_at t.paths path ≡ o → walk.node_at t.paths path ≡ None
      by None at = at
      by (Some w) at =
          let way : walk_refusal t.paths path ≡ None = walk_reaches t.paths is.tree.namespace [] (components path) (components_plain path) (ap is_some at) in
          let passed : refusal t client (op.Stat path) ≡ None =
          ap (λ (o : Option Errno). first_of o (tree_refusal t client (op.Stat path))) text
          ∙ ap (λ (o : Option Errno). first_of o (refused_if (is_none (walk.node_at t.paths path)) Enoent)) way
          ∙ ap (λ (o : Option Node). refused_if (is_none o) Enoent) at in
          let no : None ≡ Some e = sym passed ∙ refused in
          cc

  -- which is refused
  refused_needs : (request : Op) (path : List ℕ) → path_asked request ≡ Some path → own_refusal t client request ≡ None → (e : Errno) → refusal t client request ≡ Some e → IsFileIn t (reached t client request) None
  refused_needs (op.OpenFile own read write creat excl trunc append) path on may e refused =
      beside_names t _ None (subst (λ (o : Option Errno). IsFileIn t (cond {A = List PartName} (is_some o) [] (opened_part t.next (is_some (walk.node_at t.paths own)) (file_of (walk.node_at t.paths own)) trunc)) None) (sym refused) (nothing t))
  refused_needs (op.Unlink own) path on may e refused =
      beside_names t _ None (subst (λ (o : Option Errno). IsFileIn t (cond {A = List PartName} (is_some o) [] (replaced_part t client (op.Unlink own) (whole_of own))) None) (sym refused) (nothing t))
  refused_needs (op.Stat own) path on may e refused =
      beside_names t _ None (subst (λ (o : Option Node). IsFileIn t (file_part (file_of o)) None) (sym (missing own may e refused)) (nothing t))
  refused_needs (op.Mkdir own) path on may e refused = beside_names t [] None (nothing t)
  refused_needs (op.Rmdir own) path on may e refused = beside_names t [] None (nothing t)
  refused_needs (op.List own) path on may e refused = beside_names t [] None (nothing t)
  refused_needs _ path on may e refused = cc

  -- which isn't refused
  found_needs : (request : Op) (path : List ℕ) → path_asked request ≡ Some path → refusal t client request ≡ None → IsFileIn t (reached t client request) (needed_found n.held request (file_of (walk.node_at t.paths path)))
  found_needs (op.OpenFile own read write creat excl trunc append) path on free =
      subst (λ (p : List ℕ). IsFileIn t (reached t client (op.OpenFile own read write creat excl trunc append)) (cond {A = Option ℕ} trunc (file_of (walk.node_at t.paths p)) None)) (same_some own path on)
      (beside_names t _ _ (subst (λ (o : Option Errno). IsFileIn t (cond {A = List PartName} (is_some o) [] (opened_part t.next (is_some (walk.node_at t.paths own)) (file_of (walk.node_at t.paths own)) trunc)) (cond {A = Option ℕ} trunc (file_of (walk.node_at t.paths own)) None)) (sym free)
      (cut_needs t is.tree (walk.node_at t.paths own) (stood (whole_of own)) trunc)))
  found_needs (op.Unlink own) path on free =
      let lost = file_of (walk.node_at t.paths own) in
      subst (λ (p : List ℕ). IsFileIn t (reached t client (op.Unlink own)) (unkept_unnamed n.held (file_of (walk.node_at t.paths p)))) (same_some own path on)
      (beside_names t _ _ (subst (λ (o : Option Errno). IsFileIn t (cond {A = List PartName} (is_some o) [] (replaced_part t client (op.Unlink own) (whole_of own))) (unkept_unnamed n.held lost)) (sym free)
      (lost_needs (fin.remove t.paths (whole_of own)) lost (stood (whole_of own)) (λ f e. unnamed_gone t.paths (whole_of own) f is.once e))))
  found_needs (op.Stat own) path on free =
      subst (λ (p : List ℕ). IsFileIn t (reached t client (op.Stat own)) (file_of (walk.node_at t.paths p))) (same_some own path on)
      (beside_names t _ _ (one_file t (file_of (walk.node_at t.paths own)) (stood (whole_of own))))
  found_needs (op.Mkdir own) path on free = beside_names t [] None (nothing t)
  found_needs (op.Rmdir own) path on free = beside_names t [] None (nothing t)
  found_needs (op.List own) path on free = beside_names t [] None (nothing t)
  found_needs _ path on free = cc

  module _ (request : Op) (names : List (List ℕ)) (own : own_refusal t client request ≡ None) (on : option_map components (path_asked request) ≡ Some names) where
    abbrev at : (path : List ℕ) × (path_asked request ≡ Some path) × (components path ≡ names)
    at = path_of (path_asked request) names on

    pub path_refused : (e : Errno) → refusal t client request ≡ Some e → IsFileIn t (reached t client request) None
    path_refused e refused = refused_needs request at.0 at.1 own e refused

    pub path_needs : refusal t client request ≡ None → (tree : NameTable) → tree ≡ n.tree → (found : Option Found) → found ≡ found_at tree.dirs names → (file : Option ℕ) → file ≡ file_of (option_map (node_of tree) found)
        → IsFileIn t (reached t client request) (needed_found n.held request file)
    path_needs free tree same found met file told =
        subst (λ (o : Option ℕ). IsFileIn t (reached t client request) (needed_found n.held request o)) (sym stands_there) (found_needs request at.0 at.1 free)
      where
        stands_there : file ≡ file_of (walk.node_at t.paths at.0)
        stands_there =
            told ∙ ap (λ (o : Option Found). file_of (option_map (node_of tree) o)) met ∙ ap (λ (d : NameTable). file_of (node_at d names)) same
            ∙ ap file_of (sym (met_at (node_at n.tree) t.paths is.paths at.0 (text_passed t client request at.0 own at.1) ∙ ap (node_at n.tree) at.2))

  -- ---- a new name

  module _ (a b : List ℕ) where
    abbrev moved : PosixTree
    moved = record t { paths = renamed t.paths (whole_of a) (whole_of b) }

    abbrev lost : Option ℕ
    lost = file_of (fin.get t.paths (whole_of b))

    abbrev after : Bool → PosixTree
    after same = cond {A = PosixTree} same t (forget moved lost)

    -- where it isn't refused
    passed_needs : refusal t client (op.Rename a b) ≡ None → (file : Option ℕ) → IsFileIn t (replaced_part t client (op.Rename a b) (whole_of b)) file → IsFileIn t (reached t client (op.Rename a b)) file
    passed_needs free file needs =
        beside_names t _ file (subst (λ (o : Option Errno). IsFileIn t (cond {A = List PartName} (is_some o) [] (replaced_part t client (op.Rename a b) (whole_of b))) file) (sym free) needs)

    -- a name onto itself
    pub same_name_needs : refusal t client (op.Rename a b) ≡ None → bytes_eq (whole_of a) (whole_of b) ≡ true → IsFileIn t (reached t client (op.Rename a b)) None
    same_name_needs free same =
        passed_needs free None
        (subst (λ (b : Bool). IsFileIn t (dropped_part (after b) lost) None) (sym same)
        (live_needs t t lost (λ f e. sym (is.tree.live f) ∙ stood (whole_of b) f e)))

    pub new_name_needs : refusal t client (op.Rename a b) ≡ None → bytes_eq (whole_of a) (whole_of b) ≡ false → IsFileIn t (reached t client (op.Rename a b)) (unkept_unnamed n.held lost)
    new_name_needs free other =
        passed_needs free (unkept_unnamed n.held lost)
        (subst (λ (b : Bool). IsFileIn t (dropped_part (after b) lost) (unkept_unnamed n.held lost)) (sym other)
        (lost_needs moved.paths lost (stood (whole_of b)) (renamed_unnamed n t is (components a) (components b) (rename_allowed t client a b is.tree free) differ)))
      where
        differ : whole_of a ≡ whole_of b → ⊥
        differ e = let same : true ≡ false = sym (bytes_same (whole_of a) (whole_of b) e) ∙ other in cc

  -- ---- a `close`

  module _ (fd : ℕ) where
    abbrev left : PosixTree
    left = record t { fds = fin.remove t.fds (client, fd) }

    none_here : AreSizedAs fin.empty t
    none_here f s e = let none : None ≡ Some s = sym (get-empty nat_cmp f) ∙ e in cc

    -- the client holds the file on
    still_live : (f : ℕ) → holds left.fds client f ≡ true → is_live t.paths left.fds f ≡ true
    still_live f more =
        let at = holder left.fds client f more in
        held_live t.paths left.fds f (inr ((client, at.0), at.1, at.2, number_is f at.1.file at.3))

    file_closed : (d : Desc) → fin.get t.fds (client, fd) ≡ Some d → (file : Option ℕ) → d.file ≡ file → (last : Bool) → last ≡ is_last_of t.fds client fd file
        → IsFileIn t (dropped_part (forget left file) file) (unkept_closed n.held client last file)
    file_closed d there None of last told = nothing t
    file_closed d there (Some f) of true told =
        drop_needs t left f (without_holder (holding_of n.held f) client) (has_bytes n t is fin.empty none_here client fd d there f of)
        (dead_now n t is fin.empty none_here client fd d there f of (closed_not _ (sym told)))
    file_closed d there (Some f) of false told =
        live_needs t (forget left (Some f)) (Some f) (λ g e. subst (λ g. is_live (forget left (Some f)).paths (forget left (Some f)).fds g ≡ true) (same_some f g e) (forget_live left f f ∙ still_live f (open_not _ (sym told))))

    desc_closed : (o : Option Desc) → fin.get t.fds (client, fd) ≡ o → (last : Bool) → last ≡ is_last_of t.fds client fd (file_in o)
        → IsFileIn t (dropped_part (forget left (unwrap_or o closed).file) (unwrap_or o closed).file) (unkept_closed n.held client last (file_in o))
    desc_closed None there last told = nothing t
    desc_closed (Some d) there last told = file_closed d there d.file refl last told

pub close_needs : (n : NamesPart) (t : PosixTree) → IsNamesPart n t → (ask : Ask) → IsAsk t ask → (fd : ℕ) → ask.op ≡ op.Close fd → IsFileIn t (reached t ask.client ask.op) (unkept_closed n.held ask.client ask.last (file_in ask.desc))
close_needs n t is ask told fd of =
    subst (λ (r : Op). IsFileIn t (reached t ask.client r) (unkept_closed n.held ask.client ask.last (file_in ask.desc))) (sym of)
    (subst (λ (o : Option Desc). IsFileIn t (reached t ask.client (op.Close fd)) (unkept_closed n.held ask.client ask.last (file_in o))) (sym (told.desc ∙ ap (λ (r : Op). desc_of_fd t.fds ask.client (fd_named r)) of))
    (beside_names t _ _ (desc_closed n t is ask.client fd (fin.get t.fds (ask.client, fd)) refl ask.last (told.last ∙ ap (is_last t.fds ask.client) of))))

-- ---- the whole list

module _ (t : PosixTree) (client : ℕ) (request : Op) (free : is_some (own_refusal t client request) ≡ false) where
  -- what a request touches beside its client
  to_reached : (f : ℕ) → touched.IsPartOf (touched_parts t client request) (part.File f) → touched.IsPartOf (reached t client request) (part.File f)
  to_reached f at = by at
    where
      by : (part.File f ≡ part.Client client) ⊎ touched.IsPartOf (cond {A = List PartName} (is_some (own_refusal t client request)) [] (reached t client request)) (part.File f) → touched.IsPartOf (reached t client request) (part.File f)
      by (inl e) = cc
      by (inr at) = subst (λ (b : Bool). touched.IsPartOf (cond {A = List PartName} b [] (reached t client request)) (part.File f)) free at

  from_reached : (f : ℕ) → touched.IsPartOf (reached t client request) (part.File f) → touched.IsPartOf (touched_parts t client request) (part.File f)
  from_reached f at = inr (subst (λ (b : Bool). touched.IsPartOf (cond {A = List PartName} b [] (reached t client request)) (part.File f)) (sym free) at)

  all_needed : (file : Option ℕ) → IsFileIn t (reached t client request) file → IsFileIn t (touched_parts t client request) file
  all_needed file is f = (λ e. let h = (is f).0 e in (from_reached f h.0, h.1), λ h. (is f).1 (to_reached f h.0, h.1))

no_refusal : (o : Option Errno) → is_some o ≡ false → o ≡ None
no_refusal None e = refl
no_refusal (Some e) refused = cc

-- one file, as a list
listed_is : (t : PosixTree) (parts : List PartName) (file : Option ℕ) → IsFileIn t parts file → AreFilesIn t parts (listed file)
listed_is t parts None is f = (λ h. absurd (omega (arith, h.1)), λ h. let no : None ≡ Some f = (is f).1 h in cc)
listed_is t parts (Some g) is f = (λ h. (is f).0 (there h), λ h. one ((is f).1 h))
  where
    there : Contains (g ∷ []) f → Some g ≡ Some f
    there (zero, less, e) = ap Some e
    there (suc k, less, e) = absurd (omega (arith, less))

    one : Some g ≡ Some f → Contains (g ∷ []) f
    one e = (0, omega arith, same_some g f e)

-- what a request touches that its client doesn't refuse
pub one_needed : (t : PosixTree) (client : ℕ) (request : Op) → is_some (own_refusal t client request) ≡ false → (file : Option ℕ) → (own_refusal t client request ≡ None → IsFileIn t (reached t client request) file)
    → AreFilesIn t (touched_parts t client request) (listed file)
one_needed t client request free file needs =
    listed_is t (touched_parts t client request) file (all_needed t client request free file (needs (no_refusal (own_refusal t client request) free)))

pub listed_rises : (file : Option ℕ) → IsStrictlyIncreasing (listed file)
listed_rises None k less = absurd (omega (arith, less))
listed_rises (Some g) k less = absurd (omega (arith, less))

pub listed_few : (file : Option ℕ) (files : List ℕ) → files ≡ listed file → length files ≤ 1
listed_few None files is = let none = ap (λ (xs : List ℕ). length xs) is in omega (arith, none)
listed_few (Some g) files is = let one = ap (λ (xs : List ℕ). length xs) is in omega (arith, one)

-- Where the hands of these are here, the request has what it touches.
pub are_gathered : (t : PosixTree) (ask : Ask) (files : List ℕ) (fs : Files) → AreFilesIn t (touched_parts t ask.client ask.op) files → AreHere files fs → AreGathered t ask fs
are_gathered t ask files fs is here f at has = here f ((is f).1 (at, has))

-- ---- `sync`

abbrev has_key : List ℕ → ℕ → Bool
has_key keys f = list_any (eq_by_cmp nat_cmp f) keys

key_is : (f g : ℕ) → eq_by_cmp nat_cmp f g ≡ true → f ≡ g
key_is f g e = one_key nat_cmp_total nat_cmp-IsAntisymmetric f g e

each_part : (keys : List ℕ) (f : ℕ) → has_key keys f ≡ true → touched.IsPartOf (map (λ file. part.File file) keys) (part.File f)
each_part [] f e = cc
each_part (k ∷ ks) f e = by (eq_by_cmp nat_cmp f k) refl e (λ rest. each_part ks f rest)
  where
    by : (b : Bool) → eq_by_cmp nat_cmp f k ≡ b → (b || has_key ks f) ≡ true → (has_key ks f ≡ true → touched.IsPartOf (map (λ file. part.File file) ks) (part.File f)) → touched.IsPartOf (map (λ file. part.File file) (k ∷ ks)) (part.File f)
    by true same e rest = inl (ap (λ f. part.File f) (key_is f k same))
    by false same e rest = inr (rest e)

all_live : (n : NamesPart) (t : PosixTree) → IsNamesPart n t → (client : ℕ) → AreFilesIn t (touched_parts t client op.Sync) (fin.keys n.held)
all_live n t is client f = (
  λ h.
      let has : is_some (fin.get t.bytes f) ≡ true = sym (is.told f) ∙ contains_key-keys n.held f ∙ list_any-from_Contains (eq_by_cmp_equiv nat_cmp_total) f (fin.keys n.held) h in
      (inr (inr (each_part (fin.keys t.bytes) f (sym (contains_key-keys t.bytes f) ∙ has))), has),
  λ h. Contains-from_any key_is f (fin.keys n.held) (sym (contains_key-keys n.held f) ∙ is.told f ∙ h.1),
)

pub sync_needs : (n : NamesPart) (t : PosixTree) → IsNamesPart n t → (client : ℕ) (request : Op) → request ≡ op.Sync → (files : List ℕ) → files ≡ fin.keys n.held → AreFilesIn t (touched_parts t client request) files
sync_needs n t is client request of files all =
    subst (λ (r : Op). AreFilesIn t (touched_parts t client r) files) (sym of) (subst (AreFilesIn t (touched_parts t client op.Sync)) (sym all) (all_live n t is client))
