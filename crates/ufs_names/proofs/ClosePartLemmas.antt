-- The names' part and the files go on with the tree as descriptors are closed.
use Rattle.std.proofs.Common.{◌≡◌, ℕ, zero, suc, ◌<◌, ◌⊎◌, inl, inr, List, [], ◌∷◌, Bool, true, false, cond, not, length, Option, Some, None, is_none, is_some, unwrap_or, arith, ap, refl, sym, subst, ◌∙◌}
use Rattle.std.specs.Prelude.{slice_index_or}
use Rattle.std.specs.FinMap as map
use Rattle.std.specs.Option.{option_map}
use Rattle.ufs_base.specs.Choices.{first_of}
use Rattle.ufs_dir_tree.specs.DirTable.{found_at}
use Rattle.ufs_dir_tree.specs.declared.found.Found.TheVariants as met
use Rattle.ufs_files.specs.Files.{Files, AreSizedAs}
use Rattle.ufs_model.specs.Paths.{whole_path}
use Rattle.ufs_model.specs.PosixTree.{PosixTree, Fds, IsTree, desc_at, is_live, is_number}
use Rattle.ufs_model.specs.Touched as touched
use Rattle.ufs_model.specs.Touched.{dropped_part, holds, reached}
use Rattle.ufs_model.specs.Descriptors.{closed, opened}
use Rattle.ufs_model.specs.Posix.{answer, change, forget}
use Rattle.ufs_model.specs.Refusals.{own_refusal, refusal}
use Rattle.ufs_model.specs.Asks.{desc_of_fd, fd_named, is_last, is_last_of, file_in}
use Rattle.ufs_model.specs.Laws.{KeepsTrees}
use Rattle.ufs_model.specs.declared.data.Ask.{Ask}
use Rattle.ufs_model.specs.declared.data.Desc.{Desc}
use Rattle.ufs_model.specs.declared.data.Node.TheVariants as node
use Rattle.ufs_model.specs.declared.data.Op.{Op}
use Rattle.ufs_model.specs.declared.data.Op.TheVariants as op
use Rattle.ufs_model.specs.declared.data.PartName.TheVariants as name
use Rattle.ufs_model.specs.declared.data.Reply.TheVariants.{Done}
use Rattle.ufs_model.proofs.Facts.Lookups.{same_some, removed_here}
use Rattle.ufs_model.proofs.Facts.Orders.{fd_total, fd_same}
use Rattle.ufs_model.proofs.Facts.Live.{held_has, held_live, number_is, is_itself}
use Rattle.ufs_model.proofs.Facts.Allowed.{passed}
use Rattle.ufs_model.proofs.Facts.Held.{holder, held}
use Rattle.ufs_name_tree.specs.NameTable.{IsNameTable, node_at, node_of}
use Rattle.ufs_names.specs.Calls.{IsAsked, IsServed}
use Rattle.ufs_names.specs.NamesPart.{NamesPart, IsNamesPart, holding_of, is_kept, without_holder}
use Rattle.ufs_names.specs.Steps.{LetsGo, Settles}
use Rattle.ufs_names.specs.declared.holding.Holding.{Holding}
use Rattle.ufs_names.proofs.LinkLemmas.{is_named_from, number_apart}
use Rattle.ufs_names.proofs.HolderLemmas.{holds_left, client_set, client_else, kept_is_live}
use Rattle.ufs_names.proofs.DescAfterLemmas.{forget_fds}
use Rattle.ufs_names.proofs.FileLemmas.{FilesGo, files_same, files_settle}
use Rattle.ufs_names.proofs.FoundNames.{found_names}
use Rattle.ufs_names.proofs.GatheredLemmas.{dropped, reached_here}
use Rattle.ufs_names.proofs.ServedLemmas.{served_as}
use Rattle.ufs_names.proofs.SettleLemmas.{none_of, numbered_here, part_settled}
use Rattle.ufs_names.proofs.PartLemmas.{tree_after}
use Rattle.ufs_names.proofs.WalkLinks as links

-- a client that is marked is one of them
below_marked : (clients : List Bool) (c : ℕ) → slice_index_or clients c false ≡ true → c < length clients
below_marked [] c e = cc
below_marked (b ∷ clients) zero e = omega arith
below_marked (b ∷ clients) (suc c) e = let rest = below_marked clients c e in omega (arith, rest)

pub closed_not : (b : Bool) → not b ≡ true → b ≡ false
closed_not true e = cc
closed_not false e = refl

pub open_not : (b : Bool) → not b ≡ false → b ≡ true
open_not true e = refl
open_not false e = cc

is_open : (o : Option Desc) → is_none o ≡ false → (d : Desc) × (o ≡ Some d)
is_open None e = cc
is_open (Some d) e = (d, refl)

-- The part and the files of the next tree.
record Closes (t u : PosixTree) (new : NamesPart) (fs fs' : Files) : Type 0 where
  part : IsNamesPart new u
  files : FilesGo t u fs fs'

module _ (n : NamesPart) (t : PosixTree) (part : IsNamesPart n t) (fs : Files) (files : AreSizedAs fs t) (client fd : ℕ) (d : Desc) (there : map.get t.fds (client, fd) ≡ Some d) where
  -- the tree without the descriptor, its file not yet looked at
  abbrev without : PosixTree
  without = record t { fds = map.remove t.fds (client, fd) }

  -- nobody's hold ends with it
  same_holds : ((f c : ℕ) → holds (map.remove t.fds (client, fd)) c f ≡ holds t.fds c f) → IsTree without → Closes t without n fs fs
  same_holds same tree = record {
    part = record {
      tree = tree;
      paths = part.paths;
      once = part.once;
      next = part.next;
      linked = part.linked;
      held = λ f c. part.held f c ∙ sym (same f c);
      told = part.told;
      inodes = part.inodes;
    };
    files = files_same t without part.tree fs fs files refl (λ f. refl);
  }

  module _ (f : ℕ) (of : d.file ≡ Some f) where
    held_before : holds t.fds client f ≡ true
    held_before = held t.fds client f fd d there (ap (is_number f) of ∙ is_itself f)

    -- a file that is open has bytes, and its holders are told
    pub has_bytes : is_some (map.get t.bytes f) ≡ true
    has_bytes = held_has t part.tree f (inr ((client, fd), d, there, of))

    told_here : is_some (map.get n.held f) ≡ true
    told_here = part.told f ∙ has_bytes

    -- the client has another descriptor of the file
    closed_on : holds (map.remove t.fds (client, fd)) client f ≡ true → IsTree (forget without (Some f)) → Closes t (forget without (Some f)) n fs fs
    closed_on more tree = by (is_live t.paths (map.remove t.fds (client, fd)) f) live tree
      where
        live : is_live t.paths (map.remove t.fds (client, fd)) f ≡ true
        live =
            let at = holder (map.remove t.fds (client, fd)) client f more in
            held_live t.paths (map.remove t.fds (client, fd)) f (inr ((client, at.0), at.1, at.2, number_is f at.1.file at.3))

        same : (g c : ℕ) → (g ≡ f) ⊎ (g ≡ f → ⊥) → (c ≡ client) ⊎ (c ≡ client → ⊥) → holds (map.remove t.fds (client, fd)) c g ≡ holds t.fds c g
        same g c (inl e) (inl e') =
            ap (λ g. holds (map.remove t.fds (client, fd)) c g) e ∙ ap (λ c. holds (map.remove t.fds (client, fd)) c f) e' ∙ more ∙ sym held_before
            ∙ ap (λ c. holds t.fds c f) (sym e') ∙ ap (λ g. holds t.fds c g) (sym e)
        same g c (inl e) (inr not) = holds_left t.fds client fd d c g (λ is h. not is) there
        same g c (inr not) is = holds_left t.fds client fd d c g (λ is h. not (sym (same_some f g (sym of ∙ h)))) there

        by : (b : Bool) → b ≡ true → IsTree (cond {A = PosixTree} b without (record t { fds = map.remove t.fds (client, fd); bytes = map.remove t.bytes f }))
            → Closes t (cond {A = PosixTree} b without (record t { fds = map.remove t.fds (client, fd); bytes = map.remove t.bytes f })) n fs fs
        by true e tree = same_holds (λ g c. same g c (number_apart g f) (number_apart c client)) tree
        by false e tree = cc

    abbrev left : Holding
    left = without_holder (holding_of n.held f) client

    held_left : holds (map.remove t.fds (client, fd)) client f ≡ false → (c : ℕ) → slice_index_or left.clients c false ≡ holds (map.remove t.fds (client, fd)) c f
    held_left none c = by (number_apart c client)
      where
        below : client < length (holding_of n.held f).clients
        below = below_marked (holding_of n.held f).clients client (part.held f client ∙ held_before)

        by : (c ≡ client) ⊎ (c ≡ client → ⊥) → slice_index_or left.clients c false ≡ holds (map.remove t.fds (client, fd)) c f
        by (inl e) =
            ap (λ c. slice_index_or left.clients c false) e ∙ client_set (holding_of n.held f).clients client false below
            ∙ sym none ∙ ap (λ c. holds (map.remove t.fds (client, fd)) c f) (sym e)
        by (inr not) =
            client_else (holding_of n.held f).clients client c false not ∙ part.held f c ∙ sym (holds_left t.fds client fd d c f (λ is e. not is) there)

    -- what nothing keeps is live no more
    pub dead_now : holds (map.remove t.fds (client, fd)) client f ≡ false → is_kept left ≡ is_live t.paths (map.remove t.fds (client, fd)) f
    dead_now none = kept_is_live left t.paths (map.remove t.fds (client, fd)) f (part.linked f) (held_left none)

    -- it was the client's last descriptor of the file
    closed_last : holds (map.remove t.fds (client, fd)) client f ≡ false → (new : NamesPart) (fs' : Files) → ((names : List (List ℕ)) → node_at new.tree names ≡ node_at n.tree names)
        → Settles n new fs fs' f left → (is_kept left ≡ false → is_some (map.get fs f) ≡ true) → IsTree (forget without (Some f)) → Closes t (forget without (Some f)) new fs fs'
    closed_last none new fs' nodes settles here tree = record {
      part = part_settled n without f left (record {
        once = part.once;
        next = part.next;
        linked = λ g not. part.linked g;
        held = λ g c not. part.held g c ∙ sym (holds_left t.fds client fd d c g (λ is e. not (sym (same_some f g (sym of ∙ e)))) there);
        linked_here = part.linked f;
        held_here = held_left none;
        told = λ g not. part.told g;
        inodes = part.inodes;
        here = told_here;
        inode = refl;
      }) new fs fs' settles (λ names plain allowed. part.paths names plain allowed ∙ sym (nodes names)) tree;
      files = files_settle t part.tree fs fs' files without refl n new f left settles (dead_now none) here;
    }

  module _ (new : NamesPart) (fs' : Files) (nodes : (names : List (List ℕ)) → node_at new.tree names ≡ node_at n.tree names) where
    stays_closed : (u : PosixTree) → Closes t u n fs fs → (new ≡ n) × (fs' ≡ fs) → Closes t u new fs fs'
    stays_closed u all same = subst (λ (k : NamesPart × Files). Closes t u k.0 fs k.1) (λ i. (sym same.0 i, sym same.1 i)) all

    closed_file : (f : ℕ) → d.file ≡ Some f → (last : Bool) → last ≡ not (holds (map.remove t.fds (client, fd)) client f) → (last ≡ true → is_kept (without_holder (holding_of n.held f) client) ≡ false → is_some (map.get fs f) ≡ true)
        → LetsGo n new fs fs' client last (Some f) → IsTree (forget without (Some f)) → Closes t (forget without (Some f)) new fs fs'
    closed_file f of true is here goes tree = closed_last f of (closed_not _ (sym is)) new fs' nodes goes (here refl) tree
    closed_file f of false is here goes tree = stays_closed (forget without (Some f)) (closed_on f of (open_not _ (sym is)) tree) goes

    closed_any : (o : Option ℕ) → d.file ≡ o → (last : Bool) → last ≡ is_last_of t.fds client fd o
        → ((f : ℕ) → o ≡ Some f → last ≡ true → is_kept (without_holder (holding_of n.held f) client) ≡ false → is_some (map.get fs f) ≡ true)
        → LetsGo n new fs fs' client last o → IsTree (forget without o) → Closes t (forget without o) new fs fs'
    closed_any None of last is here goes tree = stays_closed without (same_holds (λ f c. holds_left t.fds client fd d c f (λ same e. let none : None ≡ Some f = sym of ∙ e in cc) there) tree) goes
    closed_any (Some f) of last is here goes tree = closed_file f of last is (here f refl) goes tree

-- ---- a request

module _ (n : NamesPart) (t : PosixTree) (ask : Ask) (fs : Files) (asked : IsAsked t n ask fs) (fd : ℕ) (of : ask.op ≡ op.Close fd) (own : own_refusal t ask.client ask.op ≡ None) where
  abbrev part : IsNamesPart n t
  part = asked.part

  own_close : own_refusal t ask.client (op.Close fd) ≡ None
  own_close = ap (own_refusal t ask.client) (sym of) ∙ own

  let_be : refusal t ask.client (op.Close fd) ≡ None
  let_be = ap (λ o. first_of o None) own_close

  at_fd : (d : Desc) × (map.get t.fds (ask.client, fd) ≡ Some d)
  at_fd = is_open (desc_at t ask.client fd) (passed _ _ own_close)

  told : ask.desc ≡ Some at_fd.0
  told = asked.asked.desc ∙ ap (λ (r : Op). desc_of_fd t.fds ask.client (fd_named r)) of ∙ at_fd.1

  last_is : ask.last ≡ is_last_of t.fds ask.client fd at_fd.0.file
  last_is = asked.asked.last ∙ ap (is_last t.fds ask.client) of ∙ ap (λ (o : Option Desc). is_last_of t.fds ask.client fd (file_in o)) at_fd.1

  opened_is : (opened t ask.client fd).file ≡ at_fd.0.file
  opened_is = ap (λ (o : Option Desc). (unwrap_or o closed).file) at_fd.1

  abbrev after : PosixTree
  after = record t { fds = map.remove t.fds (ask.client, fd) }

  module _ (f : ℕ) (names_it : file_in ask.desc ≡ Some f) where
    file_is : at_fd.0.file ≡ Some f
    file_is = ap file_in (sym told) ∙ names_it

    -- the file of the descriptor is told of
    pub held_told : is_some (map.get n.held f) ≡ true
    held_told = part.told f ∙ has_bytes n t part fs asked.files ask.client fd at_fd.0 at_fd.1 f file_is

    none_left : ask.last ≡ true → holds (map.remove t.fds (ask.client, fd)) ask.client f ≡ false
    none_left last = closed_not _ (ap (is_last_of t.fds ask.client fd) (sym file_is) ∙ sym last_is ∙ last)

    -- and where it goes its hand is here
    pub goes_here : ask.last ≡ true → is_kept (without_holder (holding_of n.held f) ask.client) ≡ false → is_some (map.get fs f) ≡ true
    goes_here last gone =
        reached_here t ask fs asked.gathered own (op.Close fd) of f
        (inr (subst (λ (o : Option ℕ). touched.IsPartOf (dropped_part (forget after o) o) (name.File f)) (sym (opened_is ∙ file_is))
        (dropped after f (sym (dead_now n t part fs asked.files ask.client fd at_fd.0 at_fd.1 f file_is (none_left last)) ∙ gone))))
        (has_bytes n t part fs asked.files ask.client fd at_fd.0 at_fd.1 f file_is)

    -- no walk leads to it then
    pub goes_unmet : IsNameTable n.tree → is_kept (without_holder (holding_of n.held f) ask.client) ≡ false → (names : List (List ℕ)) → found_at n.tree.dirs names ≡ Some (met.File (holding_of n.held f).inode) → ⊥
    goes_unmet table gone names at =
        let unlinked = (none_of (holding_of n.held f).linked _ gone).0 in
        let numbered = numbered_here n.tree n.held part.inodes f held_told in
        let stands : node_at n.tree names ≡ Some (node.File f) = ap (option_map (node_of n.tree)) at ∙ ap (λ o. Some (node.File (unwrap_or o 0))) numbered in
        let named = is_named_from t.paths f (whole_path names, links.met (node_at n.tree) t.paths part.paths names (found_names n.tree.dirs table.table names (met.File (holding_of n.held f).inode) at) ∙ stands) in
        let both : true ≡ false = sym named ∙ sym (part.linked f) ∙ unlinked in
        cc

  module _ (keeps : KeepsTrees) (new : NamesPart) (fs' : Files) (nodes : (names : List (List ℕ)) → node_at new.tree names ≡ node_at n.tree names) (goes : LetsGo n new fs fs' ask.client ask.last (file_in ask.desc)) where
    closes : Closes t (change t ask.client (op.Close fd)) new fs fs'
    closes =
        subst (λ (o : Option ℕ). Closes t (forget after o) new fs fs') (sym opened_is)
        (closed_any n t part fs asked.files ask.client fd at_fd.0 at_fd.1 new fs' nodes at_fd.0.file refl ask.last last_is
        (λ f e last gone. goes_here f (ap file_in told ∙ e) last gone)
        (subst (λ (o : Option Desc). LetsGo n new fs fs' ask.client ask.last (file_in o)) told goes)
        (subst (λ (o : Option ℕ). IsTree (forget after o)) opened_is (tree_after keeps t ask.client (op.Close fd) part.tree let_be)))

    pub served_close : IsServed t ask new fs fs' Done None
    served_close =
        subst (λ r. IsServed t ask new fs fs' r None) (ap (answer t ask.client) of)
        (served_as t ask new fs fs' (op.Close fd) None of let_be closes.part closes.files (sym gone))
      where
        gone : map.get (change t ask.client (op.Close fd)).fds (ask.client, fd) ≡ None
        gone = ap (λ (fds : Fds). map.get fds (ask.client, fd)) (forget_fds after (opened t ask.client fd).file) ∙ removed_here fd_total fd_same t.fds (ask.client, fd)
