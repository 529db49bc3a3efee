-- What a request on one path that isn't refused finds there.
use Rattle.std.proofs.Common.{◌≡◌, ℕ, inl, inr, List, [], Bool, false, Option, Some, None, is_some, ap, refl, sym, subst, ◌∙◌}
use Rattle.std.specs.Prelude.{IsSome, is_none, unwrap_or, if◌then◌else◌}
use Rattle.std.specs.Option.{option_map}
use Rattle.std.specs.FinMap as map
use Rattle.ufs_model.specs.Directories.{has_entries}
use Rattle.ufs_base.specs.Choices.{refused_if}
use Rattle.ufs_model.specs.Paths.{components, text_refusal, whole_path, whole_of, is_root}
use Rattle.ufs_model.specs.PosixTree.{PosixTree}
use Rattle.ufs_model.specs.Walk as walk
use Rattle.ufs_model.specs.Walk.{walk_refusal, is_file, file_of}
use Rattle.ufs_model.specs.Touched as touched
use Rattle.ufs_model.specs.Touched.{reached, file_part}
use Rattle.ufs_model.specs.declared.data.PartName.TheVariants as part
use Rattle.ufs_model.specs.declared.data.Errno.{Errno}
use Rattle.ufs_model.specs.Refusals.{own_refusal, tree_refusal, refusal}
use Rattle.ufs_model.specs.declared.data.Ask.{Ask}
use Rattle.ufs_model.specs.declared.data.Errno.TheVariants.{Ebusy, Enoent, Enotdir, Enotempty}
use Rattle.ufs_model.specs.declared.data.Node.TheVariants as node
use Rattle.ufs_model.specs.declared.data.Op.{Op}
use Rattle.ufs_model.specs.declared.data.Op.TheVariants as op
use Rattle.ufs_model.proofs.Facts.Allowed.{first_none, passed}
use Rattle.ufs_model.proofs.Facts.Lookups.{same_some, from_some}
use Rattle.ufs_dir_tree.specs.DirTable.{slots_at, found_at}
use Rattle.ufs_name_tree.specs.NameTable.{file_at, node_at, node_of}
use Rattle.ufs_dir_tree.specs.DirCalls.{IsBare, MayGo}
use Rattle.ufs_file.specs.Hand.{FileState}
use Rattle.ufs_files.specs.Files.{Files}
use Rattle.ufs_names.specs.Calls.{IsTouched}
use Rattle.ufs_names.specs.NamesPart.{NamesPart}
use Rattle.ufs_names.specs.PathCalls.{path_asked, IsAllowed}
use Rattle.ufs_dir_tree.specs.declared.found.Found.{Found}
use Rattle.ufs_dir_tree.specs.declared.found.Found.TheVariants.{Dir, File}
use Rattle.ufs_names.proofs.NameLists.{AreNames, names_of}
use Rattle.ufs_names.proofs.WalkLinks.{met_at}
use Rattle.ufs_names.proofs.PartFacts.{file_told}
use Rattle.ufs_names.proofs.AllowedLemmas.{unlink_allowed}
use Rattle.ufs_names.proofs.EntryLemmas.{bare_if_no_entries}
use Rattle.ufs_names.proofs.ConditionLemmas.{IsFree, IsTaken, mkdir_free, open_free, rmdir_taken, unlink_taken}
use Rattle.ufs_names.proofs.PathRefusals.{path_of, text_passed}

-- the directory that a `rmdir` takes away has no entries
rmdir_empty : (t : PosixTree) (client : ℕ) (path : List ℕ) → refusal t client (op.Rmdir path) ≡ None → has_entries t.paths (whole_of path) ≡ false
rmdir_empty t client path e =
    let own = first_none (text_refusal path) _ e in
    let way = first_none (walk_refusal t.paths path) _ own.1 in
    let at_root = first_none (refused_if (is_root path) Ebusy) _ way.1 in
    let there = first_none (refused_if (is_none (walk.node_at t.paths path)) Enoent) _ at_root.1 in
    let file = first_none (refused_if (is_file (walk.node_at t.paths path)) Enotdir) _ there.1 in
    passed (has_entries t.paths (whole_of path)) Enotempty file.1

module _ (n : NamesPart) (fs : Files) (t : PosixTree) (ask : Ask) (names : List (List ℕ)) (found : Option Found) (is : IsAllowed t ask n fs names found) where
  path : (p : List ℕ) × (path_asked ask.op ≡ Some p) × (components p ≡ names)
  path = path_of (path_asked ask.op) names is.path

  own : own_refusal t ask.client ask.op ≡ None
  own = (first_none (own_refusal t ask.client ask.op) (tree_refusal t ask.client ask.op) is.allowed).0

  text : text_refusal path.0 ≡ None
  text = text_passed t ask.client ask.op path.0 own path.1

  pub are_names : AreNames names
  are_names = subst AreNames path.2 (names_of path.0 text)

  pub node_found : node_at n.tree names ≡ option_map (node_of n.tree) found
  node_found = ap (option_map (node_of n.tree)) (sym is.met)

  -- a file that is found has a number and bytes, and its holders are told
  pub file_found : (i : ℕ) → found ≡ Some (File i) → (f : ℕ) × (file_at n.tree i ≡ Some f) × (node_at n.tree names ≡ Some (node.File f)) × IsSome (map.get t.bytes f) × IsSome (map.get n.held f)
  file_found i at = by (file_at n.tree i) refl (is.table.named names i (sym is.met ∙ at))
    where
      by : (o : Option ℕ) → file_at n.tree i ≡ o → IsSome o → (f : ℕ) × (file_at n.tree i ≡ Some f) × (node_at n.tree names ≡ Some (node.File f)) × IsSome (map.get t.bytes f) × IsSome (map.get n.held f)
      by None e some = cc
      by (Some f) e some =
          let node_is : node_at n.tree names ≡ Some (node.File f) = node_found ∙ ap (option_map (node_of n.tree)) at ∙ ap (λ o. Some (node.File (unwrap_or o 0))) e in
          let told = file_told n t is.all.part names f are_names node_is in
          (f, e, node_is, told.0, told.1)

  module _ (request : Op) (of : ask.op ≡ request) where
    pub let_be : refusal t ask.client request ≡ None
    let_be = ap (refusal t ask.client) (sym of) ∙ is.allowed

    pub named : (p : List ℕ) → path_asked request ≡ Some p → components p ≡ names
    named p e = same_some (components p) names (ap (option_map components) (sym e) ∙ ap (λ r. option_map components (path_asked r)) (sym of) ∙ is.path)

    -- what stands there
    pub stands_found : (p : List ℕ) → path_asked request ≡ Some p → walk.node_at t.paths p ≡ option_map (node_of n.tree) found
    stands_found p e =
        met_at (node_at n.tree) t.paths is.all.part.paths p (text_passed t ask.client request p (ap (own_refusal t ask.client) (sym of) ∙ own) e)
        ∙ ap (node_at n.tree) (named p e) ∙ node_found

  -- ---- what comes

  pub mkdir_may : (p : List ℕ) → ask.op ≡ op.Mkdir p → IsFree n.tree.dirs names
  mkdir_may p of = subst (IsFree n.tree.dirs) (named (op.Mkdir p) of p refl) (mkdir_free n t is.all.part ask.client p (let_be (op.Mkdir p) of))

  pub open_may : (p : List ℕ) (read write creat excl trunc append : Bool) → ask.op ≡ op.OpenFile p read write creat excl trunc append → found ≡ None → IsFree n.tree.dirs names
  open_may p read write creat excl trunc append of none =
      let request = op.OpenFile p read write creat excl trunc append in
      let at = named request of p refl in
      subst (IsFree n.tree.dirs) at (open_free n t is.all.part ask.client p read write creat excl trunc append (let_be request of) (ap (node_at n.tree) at ∙ node_found ∙ ap (option_map (node_of n.tree)) none))

  -- ---- what goes

  pub rmdir_may : (p : List ℕ) → ask.op ≡ op.Rmdir p → IsTaken n.tree.dirs names × MayGo n.tree.dirs names
  rmdir_may p of = (
    subst (IsTaken n.tree.dirs) at (rmdir_taken n t is.all.part ask.client p (let_be (op.Rmdir p) of)),
    λ i dir.
        bare_if_no_entries n.tree t.paths is.all.part.tree.namespace is.table.table is.all.part.paths names are_names.plain are_names.allowed i dir
        (ap (λ l. has_entries t.paths (whole_path l)) (sym at) ∙ rmdir_empty t ask.client p (let_be (op.Rmdir p) of)),
  )
    where
      at : components p ≡ names
      at = named (op.Rmdir p) of p refl

  pub unlink_may : (p : List ℕ) → ask.op ≡ op.Unlink p → IsTaken n.tree.dirs names × MayGo n.tree.dirs names
  unlink_may p of = (subst (IsTaken n.tree.dirs) at (unlink_taken n t is.all.part ask.client p (let_be (op.Unlink p) of)), λ i dir. no_dir i dir)
    where
      at : components p ≡ names
      at = named (op.Unlink p) of p refl

      no_dir : (i : ℕ) → found_at n.tree.dirs names ≡ Some (Dir i) → IsBare (slots_at n.tree.dirs i)
      no_dir i dir =
          let file = (unlink_allowed t ask.client p (let_be (op.Unlink p) of)).1 in
          let both : Some node.Dir ≡ Some (node.File file.0) = sym (ap (option_map (node_of n.tree)) dir) ∙ node_found ∙ sym (stands_found (op.Unlink p) of p refl) ∙ file.1 in
          cc

  -- ---- what is gathered

  -- what a request on the path reaches is here, where it has bytes
  pub touches : (f : ℕ) → touched.IsPartOf (reached t ask.client ask.op) (part.File f) → IsTouched t ask f
  touches f at = inr (subst (λ (o : Option Errno). touched.IsPartOf (if is_some o then [] else reached t ask.client ask.op) (part.File f)) (sym own) at)

  pub gathered : (f : ℕ) → touched.IsPartOf (reached t ask.client ask.op) (part.File f) → IsSome (map.get t.bytes f) → (s : FileState) × (map.get fs f ≡ Some s)
  gathered f at has = from_some (map.get fs f) (is.all.gathered f (touches f at) has)

  -- a file of which the size is asked is here
  pub hand_found : (i : ℕ) → found ≡ Some (File i) → (p : List ℕ) → ask.op ≡ op.Stat p → (f : ℕ) → file_at n.tree i ≡ Some f → (s : FileState) × (map.get fs f ≡ Some s)
  hand_found i at p of f numbered =
      let file = file_found i at in
      let same = same_some file.0 f (sym file.1 ∙ numbered) in
      let stands : walk.node_at t.paths p ≡ Some (node.File f) = stands_found (op.Stat p) of p refl ∙ sym node_found ∙ file.2 ∙ ap (λ f. Some (node.File f)) same in
      gathered f (subst (λ (r : Op). touched.IsPartOf (reached t ask.client r) (part.File f)) (sym of) (inr (subst (λ o. touched.IsPartOf (file_part (file_of o)) (part.File f)) (sym stands) (inl refl)))) (subst (λ f. IsSome (map.get t.bytes f)) same file.3)
