-- A request on a file may be drawn by a hand with a client, the file and a pool alone.
use Rattle.std.proofs.Common.{◌≡◌, ◌≢◌, ℕ, suc, ◌+◌, ◌≤◌, ◌⊎◌, inl, inr, Bool, true, false, ◌&&◌, eqb, ne_eqb, List, [], ◌∷◌, ◌++◌, Option, Some, None, sym, refl, ap, ◌∙◌, subst, arith, append-nil}
use native.Mathlib.Decide.{ℕ_discrete}
use Rattle.std.specs.Prelude.{unwrap_or, if◌then◌else◌}
use Rattle.std.specs.FinMap as fin
use Rattle.std.specs.List.{slice_get}
use Rattle.std.specs.FinSet as setof
use Rattle.ufs_bitmap.specs.Blocks.{BlockSet}
use Rattle.ufs_file_commits.specs.Serving.{IsApplied}
use Rattle.ufs_bitmap.specs.Taking.{has}
use Rattle.ufs_file_commits.specs.State.{DurableState, blocks_held}
use Rattle.ufs_file_commits.proofs.Requests.{goes_together}
use Rattle.ufs_file.specs.Content.{own_bytes}
use Rattle.ufs_file.specs.Hand.{FileState, IsFileOf, IsPosix}
use Rattle.ufs_layout.specs.declared.geometry.Geometry.{Geometry}
use Rattle.ufs_model.specs.Asks.{IsAsk, desc_of_fd, fd_asked, fd_named, fd_told, is_last}
use Rattle.ufs_model.specs.Descriptors.{closed}
use Rattle.ufs_model.specs.FileCalls.{IsFileIn, is_on_file}
use Rattle.ufs_model.specs.History.{IsLegal, goes_on, is_excused, tree_after}
use Rattle.ufs_model.specs.Posix.{posix}
use Rattle.ufs_model.specs.PosixTree.{PosixTree, desc_at, is_number}
use Rattle.ufs_model.specs.declared.data.Actor.{Actor}
use Rattle.ufs_model.specs.declared.data.Ask.{Ask}
use Rattle.ufs_model.specs.declared.data.Desc.{Desc}
use Rattle.ufs_model.specs.declared.data.Entry.{Entry}
use Rattle.ufs_model.specs.declared.data.Op.{Op}
use Rattle.ufs_model.specs.declared.data.Op.TheVariants as op
use Rattle.ufs_model.specs.declared.data.Reply.{Reply}
use Rattle.ufs_model.proofs.Facts.Histories.{legal-push, tree_after-push}
use Rattle.ufs_names.specs.Laws.{KeepsNames}
use Rattle.ufs_promise_laws.proofs.EventsGoing.{parts_by_requests}
use Rattle.ufs_promise_laws.proofs.Sound.{sound_by_requests}
use Rattle.ufs_crash_laws.specs.Changes.{change_asked, changes_names, changes_of, file_changed, name_changes, names_of}
use Rattle.ufs_crash_laws.specs.Steps.{is_served}
use Rattle.ufs_crash_laws.proofs.Facts.Histories.{changes_of-push, name_changes-push}
use Rattle.ufs_hand_laws.specs.Draws.{entry_of}
use Rattle.ufs_hand_laws.specs.Owned.{Has, count, one}
use Rattle.ufs_hand_laws.specs.Parts.{ClientPart, OwnFds, only_one}
use Rattle.ufs_hand_laws.specs.declared.fresh.Fresh.{Fresh}
use Rattle.ufs_hand_laws.proofs.Drawing.{tells_new}
use Rattle.ufs_promise_laws.specs.Parts.{Parts, durable_in, with_file}
use Rattle.ufs_promise_laws.specs.Sound.{IsFileSound, IsSoundServer}
use Rattle.ufs_promise_laws.proofs.Spaced.{pool_apart}
use Rattle.ufs_promise_laws.specs.Stored.{ArePartsOf}
use Rattle.ufs_promise_laws.proofs.FileEntries.{served_goes}
use Rattle.ufs_joint.specs.KnownDraws.{FileRequestsStayKept}
use Rattle.ufs_joint.specs.Cells.{FileCell, View}
use Rattle.ufs_joint.specs.Draws.{DrawsOnDisk, DrawsTo, IsAround, Leaves, MayDraw}
use Rattle.ufs_joint.specs.FileHands.{FileRequestsMayDraw, IsFileHand, ServesFile, own_desc, served_leaves}
use Rattle.ufs_joint.specs.Picks.{IsAbsent, bytes_at}
use Rattle.ufs_joint.specs.Servers.{IsAlwaysServedSo}
use Rattle.ufs_joint.specs.Whole.{GoOnBy, HasFileCell, pooled}
use Rattle.ufs_joint.proofs.Blocks.{in_union, pooled_one, union_left, union_right}
use Rattle.ufs_joint.proofs.NoneLost.{file_keeps}
use Rattle.ufs_joint.proofs.OneFile.{durable_is, none_here, one_file_goes, one_here, only_here}

-- ---- what a request on a file leaves as it is

pub no_new_fd : (t : PosixTree) (client : ℕ) (o : Op) → is_on_file o ≡ true → fd_asked t.fds client o ≡ 0
no_new_fd t client (op.Read fd n) e = refl
no_new_fd t client (op.Write fd x) e = refl
no_new_fd t client (op.Pread fd n at) e = refl
no_new_fd t client (op.Pwrite fd x at) e = refl
no_new_fd t client (op.Seek fd x by) e = refl
no_new_fd t client (op.Trunc fd n) e = refl
no_new_fd t client (op.Fsync fd) e = refl
no_new_fd t client (op.OpenFile a b c d x y z) e = absurd cc
no_new_fd t client (op.Close fd) e = absurd cc
no_new_fd t client op.Sync e = absurd cc
no_new_fd t client (op.Mkdir p) e = absurd cc
no_new_fd t client (op.Rmdir p) e = absurd cc
no_new_fd t client (op.Unlink p) e = absurd cc
no_new_fd t client (op.Rename p q) e = absurd cc
no_new_fd t client (op.Stat p) e = absurd cc
no_new_fd t client (op.List p) e = absurd cc

pub no_last : (t : PosixTree) (client : ℕ) (o : Op) → is_on_file o ≡ true → is_last t.fds client o ≡ false
no_last t client (op.Read fd n) e = refl
no_last t client (op.Write fd x) e = refl
no_last t client (op.Pread fd n at) e = refl
no_last t client (op.Pwrite fd x at) e = refl
no_last t client (op.Seek fd x by) e = refl
no_last t client (op.Trunc fd n) e = refl
no_last t client (op.Fsync fd) e = refl
no_last t client (op.OpenFile a b c d x y z) e = absurd cc
no_last t client (op.Close fd) e = absurd cc
no_last t client op.Sync e = absurd cc
no_last t client (op.Mkdir p) e = absurd cc
no_last t client (op.Rmdir p) e = absurd cc
no_last t client (op.Unlink p) e = absurd cc
no_last t client (op.Rename p q) e = absurd cc
no_last t client (op.Stat p) e = absurd cc
no_last t client (op.List p) e = absurd cc

no_names : (t : PosixTree) (o : Op) → is_on_file o ≡ true → changes_names t o ≡ false
no_names t (op.Read fd n) e = refl
no_names t (op.Write fd x) e = refl
no_names t (op.Pread fd n at) e = refl
no_names t (op.Pwrite fd x at) e = refl
no_names t (op.Seek fd x by) e = refl
no_names t (op.Trunc fd n) e = refl
no_names t (op.Fsync fd) e = refl
no_names t (op.OpenFile a b c d x y z) e = absurd cc
no_names t (op.Close fd) e = absurd cc
no_names t op.Sync e = absurd cc
no_names t (op.Mkdir p) e = absurd cc
no_names t (op.Rmdir p) e = absurd cc
no_names t (op.Unlink p) e = absurd cc
no_names t (op.Rename p q) e = absurd cc
no_names t (op.Stat p) e = absurd cc
no_names t (op.List p) e = absurd cc

-- it names a descriptor, and tells that one
tells_named : (o : Op) (r : Reply) → is_on_file o ≡ true → fd_told o r ≡ fd_named o
tells_named (op.Read fd n) r e = refl
tells_named (op.Write fd x) r e = refl
tells_named (op.Pread fd n at) r e = refl
tells_named (op.Pwrite fd x at) r e = refl
tells_named (op.Seek fd x by) r e = refl
tells_named (op.Trunc fd n) r e = refl
tells_named (op.Fsync fd) r e = refl
tells_named (op.OpenFile a b c d x y z) r e = absurd cc
tells_named (op.Close fd) r e = absurd cc
tells_named op.Sync r e = absurd cc
tells_named (op.Mkdir p) r e = absurd cc
tells_named (op.Rmdir p) r e = absurd cc
tells_named (op.Unlink p) r e = absurd cc
tells_named (op.Rename p q) r e = absurd cc
tells_named (op.Stat p) r e = absurd cc
tells_named (op.List p) r e = absurd cc

-- of the files it may change that of its descriptor, or none
changes_own : (t : PosixTree) (client : ℕ) (o : Op) (d : Desc) (file : ℕ) → is_on_file o ≡ true → desc_of_fd t.fds client (fd_named o) ≡ Some d → d.file ≡ Some file → (file_changed t client o ≡ Some file) ⊎ (file_changed t client o ≡ None)
changes_own t client (op.Read fd n) d file e is of = inr refl
changes_own t client (op.Write fd x) d file e is of = inl (ap (λ (y : Option Desc). (unwrap_or y closed).file) is ∙ of)
changes_own t client (op.Pread fd n at) d file e is of = inr refl
changes_own t client (op.Pwrite fd x at) d file e is of = inl (ap (λ (y : Option Desc). (unwrap_or y closed).file) is ∙ of)
changes_own t client (op.Seek fd x by) d file e is of = inr refl
changes_own t client (op.Trunc fd n) d file e is of = inl (ap (λ (y : Option Desc). (unwrap_or y closed).file) is ∙ of)
changes_own t client (op.Fsync fd) d file e is of = inr refl
changes_own t client (op.OpenFile a b c x y z w) d file e is of = absurd cc
changes_own t client (op.Close fd) d file e is of = absurd cc
changes_own t client op.Sync d file e is of = absurd cc
changes_own t client (op.Mkdir p) d file e is of = absurd cc
changes_own t client (op.Rmdir p) d file e is of = absurd cc
changes_own t client (op.Unlink p) d file e is of = absurd cc
changes_own t client (op.Rename p q) d file e is of = absurd cc
changes_own t client (op.Stat p) d file e is of = absurd cc
changes_own t client (op.List p) d file e is of = absurd cc

number_not : (file other : ℕ) (o : Option ℕ) → (o ≡ Some file) ⊎ (o ≡ None) → other ≢ file → is_number other o ≡ false
number_not file other o (inl e) not = ap (is_number other) e ∙ ne_eqb file other (λ is. not (sym is))
number_not file other o (inr e) not = ap (is_number other) e

and_off : (b : Bool) → (b && false) ≡ false
and_off true = refl
and_off false = refl

-- ---- the hand

module _ (stays : FileRequestsStayKept) (names_keep : KeepsNames)
    (g : Geometry) (visible : Bool) (v : View) (client : ℕ) (part : ClientPart) (file : ℕ) (cell : FileCell) (n : ℕ) (pool left : BlockSet) (f : Fresh) (ticket : ℕ) (ask : Ask) (server : Actor) (d : Desc) (next : DurableState) (desc : Option Desc) (fds : OwnFds)
    (hand : IsFileHand v client part file cell n pool) (serves : ServesFile client part file cell pool left f ticket ask server d next desc fds) (who : IsAlwaysServedSo part.fds f) where
  abbrev l : Leaves
  l = served_leaves fds file cell next ticket n left

  abbrev e : Entry
  e = entry_of ticket f

  abbrev go : Parts → Parts
  go p = with_file next left p

  has_part : Has (client, part) v.clients
  has_part = subst (Has (client, part)) (sym hand.clients) (inl refl)

  has_file : Has (file, cell) v.files
  has_file = subst (Has (file, cell)) (sym hand.files) (inl refl)

  counted : (other : ℕ) → count eqb other v.files ≡ count eqb other ((file, cell) ∷ [])
  counted other = ap (count eqb other) hand.files

  only_file : (other : ℕ) (c : FileCell) → Has (other, c) l.files → (other ≡ file) × (c ≡ record cell { value = next; changed = suc ticket })
  only_file other c = only_here file other (record cell { value = next; changed = suc ticket }) c

  only_pool : (m : ℕ) (s : BlockSet) → Has (m, s) l.pools → m ≡ n
  only_pool m s (inl is) = ap (λ (q : ℕ × BlockSet). q.0) is
  only_pool m s (inr is) = absurd is

  its_pool : pooled v.pools ≡ pool
  its_pool = ap pooled hand.pools ∙ pooled_one n pool

  other_file : (other : ℕ) → count eqb other v.files ≡ 0 → other ≢ file
  other_file other none is = let a = one_here file other is cell in let b = counted other in absurd (omega (arith, a, b, none))

  -- ---- how the parts go on

  same_next : next.file.file ≡ file
  same_next = serves.same_file

  goes : (p : Parts) → GoOnBy v.files l.files l.names p (go p)
  goes p = one_file_goes v.files file cell (record cell { value = next; changed = suc ticket }) left p hand.files same_next

  -- ---- from whichever tree, with whichever others

  module _ (start : PosixTree) (history : List Entry) (p : Parts) (rest : BlockSet) (a : IsAround g v ticket start history p rest) where
    abbrev t : PosixTree
    t = tree_after start history

    abbrev longer : List Entry
    longer = history ++ e ∷ []

    its : HasFileCell p file cell
    its = a.cells.files file cell has_file

    here : fin.get p.files cell.value.file.file ≡ Some cell.value.file
    here = ap (fin.get p.files) hand.number ∙ its.file_is

    durable : durable_in p.commits cell.value.file ≡ cell.value
    durable = durable_is p file cell hand.number its

    its_desc : (o : Option ℕ) → own_desc part.fds o ≡ desc_of_fd t.fds client o
    its_desc None = refl
    its_desc (Some fd) = a.fds client part has_part fd

    asked : IsAsk t ask
    asked = record {
      desc = serves.told ∙ its_desc (fd_named ask.op) ∙ ap (λ c. desc_of_fd t.fds c (fd_named ask.op)) (sym serves.ask_client);
      fd = serves.no_fd ∙ sym (no_new_fd t ask.client ask.op serves.on_file);
      last = serves.not_last ∙ sym (no_last t ask.client ask.op serves.on_file);
    }

    same_pool : pool ≡ p.pool
    same_pool = sym its_pool ∙ sym a.pool

    applied : IsApplied (durable_in p.commits cell.value.file) next p.pool left ask server ticket e desc
    applied = subst (λ (q : DurableState × BlockSet). IsApplied q.0 next q.1 left ask server ticket e desc) (λ i. (sym durable i, same_pool i)) serves.applied

    of : d.file ≡ Some cell.value.file.file
    of = serves.of ∙ ap Some (sym hand.number)

    may_be : IsFileOf cell.value.file t
    may_be = (a.parts.files cell.value.file.file cell.value.file here).1

    stepped : IsPosix t ask next.file f.reply desc
    stepped = serves.applied.posix serves.served t may_be asked

    -- the entry is the request's
    same_client : f.client ≡ ask.client
    same_client = serves.applied.of_ask.client

    same_op : f.op ≡ ask.op
    same_op = serves.applied.of_ask.asked

    goes_tree : tree_after start longer ≡ (posix t ask.client ask.op).0
    goes_tree = tree_after-push start history e ∙ served_goes t f.client f.op f.reply serves.served ∙ (λ i. (posix t (same_client i) (same_op i)).0)

    legal : IsLegal start longer
    legal = legal-push start history e a.legal
        (record { numbered = sym a.so_many; replied = inl (stepped.replied ∙ sym (λ i. (posix t (same_client i) (same_op i)).1)) })
        (tells_new f.reply history (λ fault is. let clash : true ≡ false = sym (ap is_excused is) ∙ serves.served in absurd cc))

    to : DrawsTo g v f l ticket go start history p rest
    to = record {
      legal = legal;
      served = who t (λ fd. a.fds client part has_part fd ∙ ap (λ c. desc_at t c fd) (sym serves.by_client));
      fds = λ fd. this fd (fd_named ask.op) refl ∙ ap (λ (u : PosixTree). desc_at u f.client fd) (sym goes_tree);
      others = λ c not fd. sym (stepped.told.others c fd (inl (λ is. not (is ∙ sym same_client)))) ∙ ap (λ (u : PosixTree). desc_at u c fd) (sym goes_tree);
      parts = subst (ArePartsOf (go p)) (sym goes_tree) (parts_by_requests names_keep g rest t e p cell.value.file next left ask server ticket desc d here serves.on_file asked serves.is of applied a.server serves.served a.parts);
      none_lost = λ b. file_keeps p cell.value.file next left rest rest here (same_next ∙ sym hand.number) numbered b (kept_by b);
      server = sound_by_requests g rest e p cell.value.file next left ask server ticket desc d numbered here serves.is applied a.server;
      away = λ other place c has absent. (let x = only_file other c has in own_away other place x.0 (ap (λ (y : FileCell). slice_get y.value.file.content.there place) (sym x.1) ∙ absent));
      elsewhere = λ other none _. (let not = other_file other none in ap (λ (u : PosixTree). fin.get u.bytes other) goes_tree ∙ stepped.others other (λ is. not (is ∙ same_next)));
      new = λ other none some. let not = other_file other none in let z = none_here file other not (record cell { value = next; changed = suc ticket }) in absurd (omega (arith, z, some));
    }
      where
        numbered : (q : ℕ) (s : FileState) → fin.get p.files q ≡ Some s → s.file ≡ q
        numbered q s is = (a.parts.files q s is).0

        whole : IsFileSound g (durable_in p.commits cell.value.file)
        whole = a.server.each cell.value.file.file cell.value.file here

        -- the file and the pool have the blocks that they had
        together : setof.union left (setof.from_list (blocks_held next)) ≡ setof.union p.pool (setof.from_list (blocks_held (durable_in p.commits cell.value.file)))
        together = goes_together (durable_in p.commits cell.value.file) next p.pool left whole.noted (pool_apart rest p cell.value.file here whole.once a.server.apart) ask server ticket e desc d serves.is applied

        had_or : (b : ℕ) → setof.contains (setof.union p.pool (setof.from_list (blocks_held (durable_in p.commits cell.value.file)))) b ≡ true → (has (blocks_held next) b ≡ true) ⊎ ((setof.contains left b ≡ true) ⊎ (setof.contains rest b ≡ true))
        had_or b is = by (in_union left (setof.from_list (blocks_held next)) b (ap (λ (q : BlockSet). setof.contains q b) together ∙ is))
          where
            by : (setof.contains left b ≡ true) ⊎ (has (blocks_held next) b ≡ true) → (has (blocks_held next) b ≡ true) ⊎ ((setof.contains left b ≡ true) ⊎ (setof.contains rest b ≡ true))
            by (inl x) = inr (inl x)
            by (inr x) = inl x

        kept_by : (b : ℕ) → (has (blocks_held (durable_in p.commits cell.value.file)) b ≡ true) ⊎ ((setof.contains p.pool b ≡ true) ⊎ (setof.contains rest b ≡ true)) → (has (blocks_held next) b ≡ true) ⊎ ((setof.contains left b ≡ true) ⊎ (setof.contains rest b ≡ true))
        kept_by b (inr (inr is)) = inr (inr is)
        kept_by b (inr (inl is)) = had_or b (union_left p.pool (setof.from_list (blocks_held (durable_in p.commits cell.value.file))) b is)
        kept_by b (inl is) = had_or b (union_right p.pool (setof.from_list (blocks_held (durable_in p.commits cell.value.file))) b is)

        was : IsFileIn t next.file.file may_be.bytes
        was = ap (fin.get t.bytes) (same_next ∙ sym hand.number) ∙ may_be.has

        own_away : (other place : ℕ) → other ≡ file → slice_get next.file.content.there place ≡ Some false
            → ((c : FileCell) × Has (other, c) v.files × IsAbsent c place) × (bytes_at (tree_after start longer) other place ≡ bytes_at t other place)
        own_away other place is absent =
            let x = serves.applied.away serves.served d serves.is may_be.bytes may_be.may place absent in
            let same : other ≡ next.file.file = is ∙ sym same_next in (
              (cell, subst (λ q. Has (q, cell) v.files) (sym is) has_file, x.0),
              (λ i. bytes_at (goes_tree i) (same i) place)
                  ∙ ap (λ (b : Option (List ℕ)). own_bytes (unwrap_or b []) place) (stepped.step d may_be.bytes serves.is was) ∙ x.1
                  ∙ ap (λ (b : Option (List ℕ)). own_bytes (unwrap_or b []) place) (sym was) ∙ ap (λ q. bytes_at t q place) (sym same),
            )

        this : (fd : ℕ) (o : Option ℕ) → fd_named ask.op ≡ o → fin.get fds fd ≡ desc_at (posix t ask.client ask.op).0 f.client fd
        this fd None is =
            serves.other_fds fd (λ some. let clash : None ≡ Some fd = sym is ∙ some in absurd cc) ∙ a.fds client part has_part fd
            ∙ ap (λ c. desc_at t c fd) (sym serves.by_client) ∙ sym (ap (λ c. desc_at (posix t ask.client ask.op).0 c fd) same_client ∙ stepped.told.others ask.client fd (inr (λ some. let clash : None ≡ Some fd = sym is ∙ some in absurd cc)) ∙ ap (λ c. desc_at t c fd) (sym same_client))
        this fd (Some x) is = by (ℕ_discrete fd x)
          where
            by : Dec (fd ≡ x) → fin.get fds fd ≡ desc_at (posix t ask.client ask.op).0 f.client fd
            by (yes same) =
                let named : fd_named ask.op ≡ Some fd = is ∙ ap Some (sym same) in
                serves.this_fd fd named ∙ stepped.told.this ∙ ap (desc_of_fd (posix t ask.client ask.op).0.fds ask.client) named ∙ ap (λ c. desc_at (posix t ask.client ask.op).0 c fd) (sym same_client)
            by (no not) =
                let off : fd_named ask.op ≢ Some fd = (λ some. let both : Some x ≡ Some fd = sym is ∙ some in let eq : x ≡ fd = cc in not (sym eq)) in
                serves.other_fds fd off ∙ a.fds client part has_part fd
                ∙ ap (λ c. desc_at t c fd) (sym serves.by_client) ∙ sym (ap (λ c. desc_at (posix t ask.client ask.op).0 c fd) same_client ∙ stepped.told.others ask.client fd (inr off) ∙ ap (λ c. desc_at t c fd) (sym same_client))

    -- ---- the disk

    unchanged : (other : ℕ) → other ≢ file → changes_of other start longer ≡ changes_of other start history
    unchanged other not =
        let own = changes_own t ask.client ask.op d file serves.on_file (sym asked.desc ∙ serves.is) serves.of in
        let off : is_number other (file_changed t f.client f.op) ≡ false = (λ i. is_number other (file_changed t (same_client i) (same_op i))) ∙ number_not file other (file_changed t ask.client ask.op) own not in
        changes_of-push other start history e ∙ ap (λ xs. changes_of other start history ++ xs) (ap (λ b. if is_served f.reply && b then change_asked t f.client f.op else []) off ∙ ap (λ b. if b then change_asked t f.client f.op else []) (and_off (is_served f.reply))) ∙ append-nil (changes_of other start history)

    no_name_changes : name_changes start longer ≡ name_changes start history
    no_name_changes =
        let off : changes_names t f.op ≡ false = ap (changes_names t) same_op ∙ no_names t ask.op serves.on_file in
        name_changes-push start history e ∙ ap (λ xs. name_changes start history ++ xs) (ap (λ b. if is_served f.reply && b then names_of (goes_on t e) ∷ [] else []) off ∙ ap (λ b. if b then names_of (goes_on t e) ∷ [] else []) (and_off (is_served f.reply))) ∙ append-nil (name_changes start history)

    disk : DrawsOnDisk g v f l ticket go start history p rest
    disk = record {
      kept = λ s known formed is_rest knows kept. stays s start history e p known cell.value.file next left ask server ticket desc d legal serves.no_commit here serves.on_file asked serves.is of applied
          (subst (λ (q : Geometry × BlockSet). IsSoundServer q.0 q.1 p) (λ i. (sym formed i, sym is_rest i)) a.server) kept;
      files = λ other c has. inl (ap (λ (x : FileCell). x.changed) (only_file other c has).1);
      others = λ other none _. unchanged other (other_file other none);
      names = λ u c has. absurd has;
      no_names = λ _. no_name_changes;
    }

  may_draw : MayDraw g visible v f l ticket
  may_draw = record {
    self = part;
    client = subst (λ c. Has (c, part) v.clients) (sym serves.by_client) has_part;
    low = let x = serves.low in let y = serves.by_client in omega (arith, x, y);
    seq = serves.seq;
    asked = serves.asked;
    device = λ fault is. let clash : true ≡ false = sym (ap is_excused is) ∙ serves.served in absurd cc;
    stopped = λ fault is. let clash : true ≡ false = sym (ap is_excused is) ∙ serves.served in absurd cc;
    committed = λ fault by is. let clash : true ≡ false = sym (ap is_excused is) ∙ serves.served in absurd cc;
    asks = λ fault is. let clash : true ≡ false = sym (ap is_excused is) ∙ serves.served in absurd cc;
    others = λ fd not. serves.other_fds fd (λ is. not (tells_named f.op f.reply (ap is_on_file serves.applied.of_ask.asked ∙ serves.on_file) ∙ ap fd_named serves.applied.of_ask.asked ∙ is));
    next = go;
    goes = λ p _ _. goes p;
    pool = λ p _ _. sym (pooled_one n left);
    single = λ other. let x = at_most other in x;
    same_names = λ u. sym (ap (count only_one u) hand.names);
    same_pools = λ m. sym (ap (count eqb m) hand.pools);
    pools_apart = λ m k one other b x y _ _. only_pool m one x ∙ sym (only_pool k other y);
    fewer = λ b is. subst (λ (q : BlockSet). setof.contains q b ≡ true) (sym its_pool) (serves.fewer b (subst (λ (q : BlockSet). setof.contains q b ≡ true) (pooled_one n left) is));
    known = λ other c has. let x = only_file other c has in inr (cell, subst (λ m. Has (m, cell) v.files) (sym x.0) has_file, ap (λ (y : FileCell). y.known) x.1, ap (λ (y : FileCell). y.born) x.1);
    names_known = λ u c has. absurd has;
    to = to;
    disk = λ _. disk;
  }
    where
      at_most : (other : ℕ) → count eqb other l.files ≤ 1
      at_most other = by (eqb other file)
        where
          by : (b : Bool) → one b + 0 ≤ 1
          by true = omega arith
          by false = omega arith

pub file_requests_may_draw : FileRequestsStayKept → KeepsNames → FileRequestsMayDraw
file_requests_may_draw stays names_keep g visible v client part file cell n pool left f ticket ask server d next desc fds hand serves who =
    may_draw stays names_keep g visible v client part file cell n pool left f ticket ask server d next desc fds hand serves who
