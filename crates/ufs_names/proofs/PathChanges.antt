-- A request on one path that isn't refused is served.
use Rattle.std.specs.Prelude.{IsSome, if◌then◌else◌}
use Rattle.std.proofs.Common.{◌≡◌, ℕ, ◌<◌, inl, inr, List, [], ◌∷◌, length, Bool, true, false, cond, Option, Some, None, is_some, unwrap_or, ap, refl, sym, subst, ◌∙◌}
use Rattle.std.specs.Option.{option_map}
use Rattle.std.specs.FinMap as map
use Rattle.ufs_calls.specs.Modes.{file_named, mode_asked}
use Rattle.ufs_model.specs.Descriptors.{Mode, desc_of}
use Rattle.ufs_model.specs.Paths.{components, whole_of}
use Rattle.ufs_model.specs.PosixTree.{PosixTree}
use Rattle.ufs_model.specs.PosixTree as posix_tree
use Rattle.ufs_model.specs.Touched as touched
use Rattle.ufs_model.specs.Touched.{dropped_part, holds, opened_part, reached, replaced_part}
use Rattle.ufs_model.specs.declared.data.Errno.{Errno}
use Rattle.ufs_model.specs.declared.data.PartName.TheVariants as part_name
use Rattle.ufs_model.specs.Posix.{answer, change, forget, open_node, new_fd, with_bytes, with_fd}
use Rattle.ufs_model.specs.Refusals.{own_refusal, tree_refusal, refusal}
use Rattle.ufs_model.specs.Walk as walk
use Rattle.ufs_model.specs.Walk.{file_of}
use Rattle.ufs_model.specs.Laws.{KeepsTrees}
use Rattle.ufs_model.proofs.Facts.Orders.{fd_total, fd_same}
use Rattle.ufs_model.proofs.Facts.Lookups.{same_some, inserted_here}
use Rattle.ufs_model.specs.declared.data.Ask.{Ask}
use Rattle.ufs_model.specs.declared.data.Desc.{Desc}
use Rattle.ufs_model.specs.declared.data.Node.{Node}
use Rattle.ufs_model.specs.declared.data.Node.TheVariants as node
use Rattle.ufs_model.specs.declared.data.Op.{Op}
use Rattle.ufs_model.specs.declared.data.Op.TheVariants as op
use Rattle.ufs_name_tree.specs.NameTable.{file_at, node_at, node_of}
use Rattle.ufs_name_tree.specs.Nodes.{SetsNode}
use Rattle.ufs_file.specs.Hand.{FileState}
use Rattle.ufs_files.specs.Files.{Files, AreSizedAs}
use Rattle.ufs_names.specs.NamesPart.{NamesPart, IsNamesPart, holding_of, without_name}
use Rattle.ufs_names.specs.Steps.{GoesHere, KeepsFiles, LosesName, Opens, OpensFile, Removes}
use Rattle.ufs_names.specs.Calls.{IsServed, IsTouched, no_bytes}
use Rattle.ufs_names.specs.PathCalls.{IsAllowed}
use Rattle.ufs_dir_tree.specs.declared.found.Found.{Found}
use Rattle.ufs_dir_tree.specs.declared.found.Found.TheVariants.{Dir, File}
use Rattle.ufs_names.proofs.PartLemmas.{part_mkdir, part_rmdir, part_unlink}
use Rattle.ufs_names.proofs.OpenPartLemmas.{part_open_dir, part_open_file, part_open_new}
use Rattle.ufs_names.proofs.AllowedLemmas.{rmdir_allowed}
use Rattle.ufs_names.proofs.ServedLemmas.{served_as, served_but}
use Rattle.ufs_names.proofs.FileLemmas.{FilesGo, FilesGoBut, but_these, files_same, files_emptied, files_made, files_settle}
use Rattle.ufs_names.proofs.HolderLemmas.{kept_is_live}
use Rattle.ufs_names.proofs.LinkLemmas.{is_named, file_there, unnamed_gone}
use Rattle.ufs_names.proofs.GatheredLemmas.{dropped, goes_here, reached_here}
use Rattle.ufs_names.proofs.PartFacts.{file_told}
use Rattle.ufs_model.specs.Asks.{desc_of_fd, fd_told}
use Rattle.ufs_model.proofs.Facts.Allowed.{first_none}
use Rattle.ufs_names.proofs.PathConditions.{are_names, file_found, gathered, let_be, named, node_found, stands_found, touches}

-- the descriptor that an `open` gives
open_told : (t : PosixTree) (client : ℕ) (whole : List ℕ) (m : Mode) (o : Option Node) (next : ℕ) → next ≡ t.next
    → Some (desc_of m (file_named o next)) ≡ map.get (open_node t client whole m o).fds (client, new_fd t client)
open_told t client whole m None next e = ap (λ k. Some (desc_of m (Some k))) e ∙ sym (inserted_here fd_total fd_same t.fds (client, new_fd t client) (desc_of m (Some t.next)))
open_told t client whole m (Some node.Dir) next e = sym (inserted_here fd_total fd_same t.fds (client, new_fd t client) (desc_of m None))
open_told t client whole m (Some (node.File f)) next e = by m.trunc
  where
    by : (b : Bool) → Some (desc_of m (Some f)) ≡ map.get (with_fd (cond {A = PosixTree} b (with_bytes t (Some f) []) t) client (new_fd t client) (desc_of m (Some f))).fds (client, new_fd t client)
    by true = sym (inserted_here fd_total fd_same t.fds (client, new_fd t client) (desc_of m (Some f)))
    by false = sym (inserted_here fd_total fd_same t.fds (client, new_fd t client) (desc_of m (Some f)))

-- the file that lost its name goes where nothing keeps it
pub files_lose : (n : NamesPart) (t : PosixTree) → IsNamesPart n t → (fs fs' : Files) → AreSizedAs fs t → (now : NamesPart) (u : PosixTree) → u.bytes ≡ t.bytes → u.fds ≡ t.fds → (lost : Option ℕ)
    → ((f : ℕ) → lost ≡ Some f → is_named u.paths f ≡ false) → GoesHere n fs lost → LosesName n now fs fs' lost → FilesGo t (forget u lost) fs fs'
files_lose n t part fs fs' files now u same fds None gone here keeps = files_same t u part.tree fs fs' files keeps.stays.files (λ f. ap (λ (m : posix_tree.Files). map.get m f) same)
files_lose n t part fs fs' files now u same fds (Some g) gone here settles =
    let h = without_name (holding_of n.held g) in
    files_settle t part.tree fs fs' files u same n now g h settles
    (kept_is_live h u.paths u.fds g (sym (gone g refl)) (λ c. part.held g c ∙ ap (λ fds. holds fds c g) (sym fds)))
    (here g refl)

module _ (keeps : KeepsTrees) (n : NamesPart) (fs : Files) (t : PosixTree) (ask : Ask) (names : List (List ℕ)) (found : Option Found) (is : IsAllowed t ask n fs names found) (now : NamesPart) (fs' : Files) where
  abbrev part : IsNamesPart n t
  part = is.all.part

  -- nothing changes
  served_same : (request : Op) → ask.op ≡ request → change t ask.client request ≡ t → None ≡ desc_of_fd (change t ask.client request).fds ask.client (fd_told request (answer t ask.client request)) → IsServed t ask n fs fs (answer t ask.client ask.op) None
  served_same request of same none =
      served_as t ask n fs fs request None of (let_be n fs t ask names found is request of) (subst (IsNamesPart n) (sym same) part)
      (files_same t (change t ask.client request) part.tree fs fs is.all.files refl (λ f. ap (λ (u : PosixTree). map.get u.bytes f) same)) none

  pub served_stat : (p : List ℕ) → ask.op ≡ op.Stat p → IsServed t ask n fs fs (answer t ask.client ask.op) None
  served_stat p of = served_same (op.Stat p) of refl refl

  pub served_list : (p : List ℕ) → ask.op ≡ op.List p → IsServed t ask n fs fs (answer t ask.client ask.op) None
  served_list p of = served_same (op.List p) of refl refl

  pub served_mkdir : (p : List ℕ) → ask.op ≡ op.Mkdir p → SetsNode (node_at n.tree) (node_at now.tree) names (Some node.Dir) → KeepsFiles n now fs fs' → IsServed t ask now fs fs' (answer t ask.client ask.op) None
  served_mkdir p of sets same =
      let free = let_be n fs t ask names found is (op.Mkdir p) of in
      let at = named n fs t ask names found is (op.Mkdir p) of p refl in
      served_as t ask now fs fs' (op.Mkdir p) None of free
      (part_mkdir keeps n t ask.client part now fs fs' p free (subst (λ l. SetsNode (node_at n.tree) (node_at now.tree) l (Some node.Dir)) (sym at) sets) same)
      (files_same t (change t ask.client (op.Mkdir p)) part.tree fs fs' is.all.files same.stays.files (λ f. refl))
      refl

  -- the hand of a file that goes with its name is here
  pub rmdir_here : (p : List ℕ) → ask.op ≡ op.Rmdir p → GoesHere n fs (file_of (node_at n.tree names))
  rmdir_here p of f e =
      let free = let_be n fs t ask names found is (op.Rmdir p) of in
      let dir = node_found n fs t ask names found is ∙ sym (stands_found n fs t ask names found is (op.Rmdir p) of p refl) ∙ (rmdir_allowed t ask.client p free).2 in
      let no : None ≡ Some f = sym (ap file_of dir) ∙ e in
      λ gone. cc

  pub unlink_here : (p : List ℕ) → ask.op ≡ op.Unlink p → GoesHere n fs (file_of (node_at n.tree names))
  unlink_here p of =
      goes_here n t part fs (map.remove t.paths (whole_of p)) (file_of (node_at n.tree names)) (λ f e. unnamed_gone t.paths (whole_of p) f part.once (ap file_of stood ∙ e))
      (λ f e dead. reached_here t ask fs is.all.gathered own (op.Unlink p) of f
      (inr (subst (λ (r : Option Errno). touched.IsPartOf (if is_some r then [] else replaced_part t ask.client (op.Unlink p) (whole_of p)) (part_name.File f)) (sym free)
      (subst (λ o. touched.IsPartOf (dropped_part (forget (record t { paths = map.remove t.paths (whole_of p) }) o) o) (part_name.File f)) (sym (ap file_of stood ∙ e))
      (dropped (record t { paths = map.remove t.paths (whole_of p) }) f dead))))
      (file_told n t part names f (are_names n fs t ask names found is) (file_there (node_at n.tree names) f e)).0)
    where
      free : refusal t ask.client (op.Unlink p) ≡ None
      free = let_be n fs t ask names found is (op.Unlink p) of

      own : own_refusal t ask.client ask.op ≡ None
      own = (first_none (own_refusal t ask.client ask.op) (tree_refusal t ask.client ask.op) is.allowed).0

      stood : walk.node_at t.paths p ≡ node_at n.tree names
      stood = stands_found n fs t ask names found is (op.Unlink p) of p refl ∙ sym (node_found n fs t ask names found is)

  module _ (goes : Removes n now fs fs' names) where
    pub served_rmdir : (p : List ℕ) → ask.op ≡ op.Rmdir p → IsServed t ask now fs fs' (answer t ask.client ask.op) None
    served_rmdir p of =
        let free = let_be n fs t ask names found is (op.Rmdir p) of in
        let at = named n fs t ask names found is (op.Rmdir p) of p refl in
        let dir = (rmdir_allowed t ask.client p free).2 in
        let loses = subst (λ o. LosesName n now fs fs' (file_of o)) (node_found n fs t ask names found is ∙ sym (stands_found n fs t ask names found is (op.Rmdir p) of p refl) ∙ dir) goes.file in
        served_as t ask now fs fs' (op.Rmdir p) None of free
        (part_rmdir keeps n t ask.client part now fs fs' p free (subst (Removes n now fs fs') (sym at) goes))
        (subst (λ o. FilesGo t (forget (record t { paths = map.remove t.paths (whole_of p) }) (file_of o)) fs fs') (sym dir)
        (files_same t (record t { paths = map.remove t.paths (whole_of p) }) part.tree fs fs' is.all.files loses.stays.files (λ f. refl)))
        refl

    pub served_unlink : (p : List ℕ) → ask.op ≡ op.Unlink p → GoesHere n fs (file_of (node_at n.tree names)) → IsServed t ask now fs fs' (answer t ask.client ask.op) None
    served_unlink p of here =
        let free = let_be n fs t ask names found is (op.Unlink p) of in
        let at = named n fs t ask names found is (op.Unlink p) of p refl in
        let stood = stands_found n fs t ask names found is (op.Unlink p) of p refl ∙ sym (node_found n fs t ask names found is) in
        served_as t ask now fs fs' (op.Unlink p) None of free
        (part_unlink keeps n t ask.client part now fs fs' p free (subst (Removes n now fs fs') (sym at) goes))
        (subst (λ o. FilesGo t (forget (record t { paths = map.remove t.paths (whole_of p) }) (file_of o)) fs fs') (sym stood)
        (files_lose n t part fs fs' is.all.files now (record t { paths = map.remove t.paths (whole_of p) }) refl refl (file_of (node_at n.tree names))
        (λ f e. unnamed_gone t.paths (whole_of p) f part.once (ap file_of stood ∙ e)) here goes.file))
        refl

  module _ (p : List ℕ) (read write creat excl trunc append : Bool) (of : ask.op ≡ op.OpenFile p read write creat excl trunc append) where
    abbrev request : Op
    request = op.OpenFile p read write creat excl trunc append

    abbrev mode : Mode
    mode = record { read = read; write = write; creat = creat; excl = excl; trunc = trunc; append = append }

    free : refusal t ask.client request ≡ None
    free = let_be n fs t ask names found is request of

    at : components p ≡ names
    at = named n fs t ask names found is request of p refl

    met_as : (o : Option Found) → found ≡ o → node_at n.tree (components p) ≡ option_map (node_of n.tree) o
    met_as o e = ap (node_at n.tree) at ∙ node_found n fs t ask names found is ∙ ap (option_map (node_of n.tree)) e

    -- what the tree opens
    opened_node : (o : Option Found) → found ≡ o → change t ask.client request ≡ open_node t ask.client (whole_of p) mode (option_map (node_of n.tree) o)
    opened_node o e = ap (open_node t ask.client (whole_of p) mode) (stands_found n fs t ask names found is request of p refl ∙ ap (option_map (node_of n.tree)) e)

    part_opened : (o : Option Found) → found ≡ o → ask.client < 16 → (o ≡ None → SetsNode (node_at n.tree) (node_at now.tree) names (Some (node.File n.next)))
        → ((i f : ℕ) → o ≡ Some (File i) → file_at n.tree i ≡ Some f → length (holding_of n.held f).clients ≡ 16) → Opens n now fs fs' ask.client trunc o → IsNamesPart now (change t ask.client request)
    part_opened None e less sets sixteen opens =
        part_open_new keeps n t ask.client part p read write creat excl trunc append free now fs fs' opens (met_as None e) less
        (subst (λ l. SetsNode (node_at n.tree) (node_at now.tree) l (Some (node.File n.next))) (sym at) (sets refl))
    part_opened (Some (Dir i)) e less sets sixteen opens =
        subst (λ (n' : NamesPart). IsNamesPart n' (change t ask.client request)) (sym opens.0) (part_open_dir keeps n t ask.client part p read write creat excl trunc append free (met_as (Some (Dir i)) e))
    part_opened (Some (File i)) e less sets sixteen opens =
        let file = file_found n fs t ask names found is i e in
        let opened = subst (OpensFile n now fs fs' ask.client trunc) (ap (λ o. unwrap_or o 0) file.1) opens in
        part_open_file keeps n t ask.client part p read write creat excl trunc append free file.0 (ap (node_at n.tree) at ∙ file.2) (sixteen i file.0 refl file.1) less file.3 now fs fs' opened

    -- the file that `trunc` empties is here
    cut_reached : (i f : ℕ) → found ≡ Some (File i) → file_at n.tree i ≡ Some f → trunc ≡ true → touched.IsPartOf (reached t ask.client ask.op) (part_name.File f) × IsSome (map.get t.bytes f)
    cut_reached i f e numbered cut =
        let file = file_found n fs t ask names found is i e in
        let same = same_some file.0 f (sym file.1 ∙ numbered) in
        let stands : walk.node_at t.paths p ≡ Some (node.File f) = stands_found n fs t ask names found is request of p refl ∙ sym (node_found n fs t ask names found is) ∙ file.2 ∙ ap (λ f. Some (node.File f)) same in (
          subst (λ (r : Op). touched.IsPartOf (reached t ask.client r) (part_name.File f)) (sym of)
              (inr (subst (λ (r : Option Errno). touched.IsPartOf (if is_some r then [] else opened_part t.next (is_some (walk.node_at t.paths p)) (file_of (walk.node_at t.paths p)) trunc) (part_name.File f)) (sym free)
              (subst (λ (o : Option Node). touched.IsPartOf (opened_part t.next (is_some o) (file_of o) trunc) (part_name.File f)) (sym stands)
              (subst (λ b. touched.IsPartOf (if b then part_name.File f ∷ [] else []) (part_name.File f)) (sym cut) (inl refl))))),
          subst (λ f. IsSome (map.get t.bytes f)) same file.3,
        )

    pub emptied_here : (i f : ℕ) → found ≡ Some (File i) → file_at n.tree i ≡ Some f → trunc ≡ true → (s : FileState) × (map.get fs f ≡ Some s)
    emptied_here i f e numbered cut = let has = cut_reached i f e numbered cut in gathered n fs t ask names found is f has.0 has.1

    still : (u : PosixTree) → FilesGo t u fs fs' → FilesGoBut (IsTouched t ask) t u fs fs'
    still u go = but_these (IsTouched t ask) t u fs fs' go

    files_opened : (o : Option Found) → found ≡ o → Opens n now fs fs' ask.client trunc o → FilesGoBut (IsTouched t ask) t (open_node t ask.client (whole_of p) mode (option_map (node_of n.tree) o)) fs fs'
    files_opened None e adds =
        still (open_node t ask.client (whole_of p) mode None) (files_made t (open_node t ask.client (whole_of p) mode None) part.tree fs fs' is.all.files adds.inode (adds.files ∙ ap (λ k. map.insert fs k (no_bytes k adds.inode)) part.next) refl)
    files_opened (Some (Dir i)) e opens =
        still (open_node t ask.client (whole_of p) mode (Some node.Dir)) (files_same t (open_node t ask.client (whole_of p) mode (Some node.Dir)) part.tree fs fs' is.all.files opens.1 (λ f. refl))
    files_opened (Some (File i)) e opens =
        let file = file_found n fs t ask names found is i e in
        let opened = subst (OpensFile n now fs fs' ask.client trunc) (ap (λ o. unwrap_or o 0) file.1) opens in
        subst (λ f. FilesGoBut (IsTouched t ask) t (open_node t ask.client (whole_of p) mode (Some (node.File f))) fs fs') (sym (ap (λ o. unwrap_or o 0) file.1)) (by file.0 file.1 opened trunc refl)
      where
        by : (f : ℕ) → file_at n.tree i ≡ Some f → OpensFile n now fs fs' ask.client trunc f → (b : Bool) → trunc ≡ b
            → FilesGoBut (IsTouched t ask) t (with_fd (cond {A = PosixTree} b (with_bytes t (Some f) []) t) ask.client (new_fd t ask.client) (desc_of mode (Some f))) fs fs'
        by f numbered opened true cut =
            let hand = emptied_here i f e numbered cut in
            files_emptied t (with_fd (with_bytes t (Some f) []) ask.client (new_fd t ask.client) (desc_of mode (Some f))) part.tree fs fs' is.all.files f (IsTouched t ask) (touches n fs t ask names found is f (cut_reached i f e numbered cut).0) hand.0 hand.1 (opened.emptied cut hand.0 hand.1) refl
        by f numbered opened false keep =
            still (with_fd t ask.client (new_fd t ask.client) (desc_of mode (Some f))) (files_same t (with_fd t ask.client (new_fd t ask.client) (desc_of mode (Some f))) part.tree fs fs' is.all.files (opened.kept keep) (λ f. refl))

    pub served_open : ask.client < 16 → (m : Mode) → Some m ≡ mode_asked ask.op → (found ≡ None → SetsNode (node_at n.tree) (node_at now.tree) names (Some (node.File n.next)))
        → ((i f : ℕ) → found ≡ Some (File i) → file_at n.tree i ≡ Some f → length (holding_of n.held f).clients ≡ 16) → Opens n now fs fs' ask.client m.trunc found
        → (desc : Desc) → desc ≡ desc_of m (file_named (option_map (node_of n.tree) found) n.next) → IsServed t ask now fs fs' (answer t ask.client ask.op) (Some desc)
    served_open less m asked sets sixteen opens desc told =
        let m_is = same_some m mode (asked ∙ ap mode_asked of) in
        let opened = subst (λ (m : Mode). Opens n now fs fs' ask.client m.trunc found) m_is opens in
        served_but t ask now fs fs' request (Some desc) of free
        (part_opened found refl less sets sixteen opened)
        (subst (λ (u : PosixTree). FilesGoBut (IsTouched t ask) t u fs fs') (sym (opened_node found refl)) (files_opened found refl opened))
        (ap Some told ∙ ap (λ (m : Mode). Some (desc_of m (file_named (option_map (node_of n.tree) found) n.next))) m_is
        ∙ ap (λ o. Some (desc_of mode (file_named o n.next))) (sym (stands_found n fs t ask names found is request of p refl))
        ∙ open_told t ask.client (whole_of p) mode (walk.node_at t.paths p) n.next part.next)
