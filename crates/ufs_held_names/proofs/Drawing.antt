-- A request of the names that a server has may be drawn.
use Rattle.std.proofs.Common.{◌≡◌, ◌≢◌, ℕ, suc, ◌<◌, ◌⊎◌, inl, inr, Bool, true, false, cond, List, [], ◌∷◌, Option, Some, None, is_some, ap, sym, refl, ◌∙◌, subst, arith}
use Rattle.std.specs.Prelude.{Contains, slice_index_or}
use Rattle.std.specs.Cmp.{nat_cmp_total}
use Rattle.std.specs.Ordering.{nat_cmp}
use Rattle.std.specs.FinMap as map
use Rattle.std.specs.FinMap.{nat_cmp-IsAntisymmetric}
use Rattle.std.specs.FinSet as set
use Rattle.ufs_bitmap.specs.Blocks.{BlockSet}
use Rattle.ufs_file_commits.specs.State.{CommitState, DurableState, state_of}
use Rattle.ufs_file.specs.Hand.{FileState, IsEntryOf}
use Rattle.ufs_files.specs.Files.{AreSizedAs, Files}
use Rattle.ufs_files.proofs.MapLemmas.{one_or_apart}
use Rattle.ufs_files.proofs.SizeLemmas.{files_are_sized}
use Rattle.ufs_model.proofs.Facts.Lookups.{inserted_else, inserted_here, removed_else, removed_here, same_some}
use Rattle.ufs_model.specs.Asks.{IsAsk, fd_told}
use Rattle.ufs_model.specs.Excuses.{ExcuseFits}
use Rattle.ufs_model.specs.History.{is_excused, tree_after}
use Rattle.ufs_model.specs.PosixTree.{PosixTree, desc_at}
use Rattle.ufs_model.specs.declared.data.Actor.{Actor}
use Rattle.ufs_model.specs.declared.data.Ask.{Ask}
use Rattle.ufs_model.specs.declared.data.Desc.{Desc}
use Rattle.ufs_model.specs.declared.data.Entry.{Entry}
use Rattle.ufs_model.specs.declared.data.Excuse.{Excuse}
use Rattle.ufs_model.specs.declared.data.Excuse.TheVariants as excuse
use Rattle.ufs_model.specs.declared.data.Op.{Op}
use Rattle.ufs_model.specs.declared.data.Reply.{Reply}
use Rattle.ufs_model.specs.declared.data.Reply.TheVariants as reply
use Rattle.ufs_names.specs.Calls.{AreGathered, IsAsked, IsTouched, no_bytes}
use Rattle.ufs_names.specs.NamesPart.{IsNamesPart, NamesPart}
use Rattle.ufs_names.specs.Space.{AreApart}
use Rattle.ufs_promise_laws.specs.Serving.{PoolsMayLend}
use Rattle.ufs_crash_laws.specs.Changes.{asks_commit}
use Rattle.ufs_promise_laws.specs.Parts.{Commits}
use Rattle.ufs_hand_laws.specs.Owned.{Has, each, times}
use Rattle.ufs_hand_laws.specs.Parts.{ClientPart, OwnFds}
use Rattle.ufs_hand_laws.specs.declared.fresh.Fresh.{Fresh}
use Rattle.ufs_joint.specs.Lent.{LentAreApart}
use Rattle.ufs_joint.specs.Cells.{FileCell, NamesCell, Start, View}
use Rattle.ufs_joint.specs.Draws.{Leaves, MayDraw}
use Rattle.ufs_joint.specs.Known.{Knows}
use Rattle.ufs_joint.specs.NamesHands.{AreFilesOfCells, AreNumberedOnce, IsNamesHand, IsNextCell, IsNextOf, MayExcuseNames, NamesExcusesMayDraw, NamesRequestsMayDraw, ServesNames, Serving, names_leaves, still_leaves}
use Rattle.ufs_joint.specs.Rule.{looked_at}
use Rattle.ufs_joint.specs.Servers.{IsAlwaysServedSo, IsServer, NeedsServer}
use Rattle.ufs_joint.specs.Whole.{HasFileCell, HasNamesCell, pooled}
use Rattle.ufs_joint.proofs.Blocks.{pooled_one}
use Rattle.ufs_joint.proofs.Served.{by_server}
use Rattle.ufs_held.specs.Drawn.{first_fds, fresh_of}
use Rattle.ufs_noted.specs.Known.{commits_in, file_in}
use Rattle.ufs_noted.specs.Noted.{HasServedWith, Noted, one_file, one_known}
use Rattle.ufs_noted.specs.declared.known.KnownFile.{KnownFile}
use Rattle.ufs_noted.proofs.Maps.{file_here, none_some, only_file}
use Rattle.ufs_held_names.specs.Asked.{IsNeeded}
use Rattle.ufs_held_names.specs.Asking.{AsksNames}
use Rattle.ufs_held_names.specs.Drawn.{fds_told, names_left, names_then, new_cells, next_cells}
use Rattle.ufs_held_names.specs.HeldNames.{noted_in}
use Rattle.ufs_held_names.proofs.Files.{files_none, files_one, new_files, new_next, new_once, next_files, next_next, next_once}

excuse_in : (r : Reply) → is_excused r ≡ true → (x : Excuse) × (r ≡ reply.Excused x)
excuse_in (reply.Excused x) is = (x, refl)
excuse_in reply.Done is = absurd cc
excuse_in (reply.Fd n) is = absurd cc
excuse_in (reply.Count n) is = absurd cc
excuse_in (reply.At n) is = absurd cc
excuse_in (reply.Got bytes) is = absurd cc
excuse_in (reply.IsFile n) is = absurd cc
excuse_in (reply.IsDir n) is = absurd cc
excuse_in (reply.Names names) is = absurd cc
excuse_in (reply.Refused x) is = absurd cc

-- ---- descriptors

pub told_here : (fds : OwnFds) (o : Option ℕ) (desc : Option Desc) (fd : ℕ) → o ≡ Some fd → map.get (fds_told fds o desc) fd ≡ desc
told_here fds o None fd is = ap (λ (q : Option ℕ). map.get (fds_told fds q None) fd) is ∙ removed_here nat_cmp_total nat_cmp-IsAntisymmetric fds fd
told_here fds o (Some d) fd is = ap (λ (q : Option ℕ). map.get (fds_told fds q (Some d)) fd) is ∙ inserted_here nat_cmp_total nat_cmp-IsAntisymmetric fds fd d

pub told_else : (fds : OwnFds) (o : Option ℕ) (desc : Option Desc) (fd : ℕ) → o ≢ Some fd → map.get (fds_told fds o desc) fd ≡ map.get fds fd
told_else fds None desc fd not = refl
told_else fds (Some g) None fd not = removed_else nat_cmp_total nat_cmp-IsAntisymmetric fds g fd (λ is. not (ap Some (sym is)))
told_else fds (Some g) (Some d) fd not = inserted_else nat_cmp_total nat_cmp-IsAntisymmetric fds g d fd (λ is. not (ap Some (sym is)))

-- ---- the file that is needed

pub gathered_none : (x : NamesPart) (ask : Ask) → IsNeeded x ask None → (t : PosixTree) → IsNamesPart x t → IsAsk t ask → AreGathered t ask map.empty
gathered_none x ask needed t part asked f reached live = (let has = (needed t part asked f).1 (reached, live) in let within = has.1 in absurd (omega (arith, within)))

pub gathered_one : (x : NamesPart) (ask : Ask) (number : ℕ) (file : FileState) → IsNeeded x ask (Some number) → (t : PosixTree) → IsNamesPart x t → IsAsk t ask → AreGathered t ask (one_file number (Some file))
gathered_one x ask number file needed t part asked f reached live =
    let has = (needed t part asked f).1 (reached, live) in
    let is : f ≡ number = is_number number f has in
    ap (λ (n : ℕ). is_some (map.get (one_file number (Some file)) n)) is ∙ ap is_some (file_here number (Some file))
  where
    is_number : (g f : ℕ) → Contains (g ∷ []) f → f ≡ g
    is_number g f has =
        let within = has.1 in
        let first : has.0 ≡ 0 = omega (arith, within) in
        sym has.2 ∙ ap (λ (k : ℕ). slice_index_or (g ∷ []) k f) first

pub touched_one : (x : NamesPart) (ask : Ask) (number : ℕ) → IsNeeded x ask (Some number) → (t : PosixTree) → IsNamesPart x t → IsAsk t ask → IsTouched t ask number
touched_one x ask number needed t part asked = ((needed t part asked number).0 (0, omega arith, refl)).0

-- ---- what the hand knows

module _ (k : Start) (n0 : ℕ) (v : View) (knows : Knows k n0 v) (part : ClientPart) (names : NamesCell) (n : ℕ) (pool : BlockSet) (ask : Ask) (hand : IsNamesHand v ask.client part names n pool) (x : Noted) (value : noted_in names ≡ x) (asks : AsksNames part ask) where
  abbrev t : PosixTree
  t = tree_after knows.start knows.history

  has_part : Has (ask.client, part) v.clients
  has_part = subst (Has (ask.client, part)) (sym hand.clients) (inl refl)

  names_cell : HasNamesCell knows.parts names
  names_cell = knows.around.cells.names tt names (subst (Has (tt, names)) (sym hand.names_are) (inl refl))

  its_pool : knows.parts.pool ≡ pool
  its_pool = knows.around.pool ∙ ap pooled hand.pools ∙ pooled_one n pool

  its_names : knows.parts.names ≡ x.names
  its_names = names_cell.names ∙ ap (λ (y : Noted). y.names) value

  pub part_of : IsNamesPart x.names t
  part_of = subst (λ (y : NamesPart). IsNamesPart y t) its_names knows.around.parts.names

  pub asked_of : IsAsk t ask
  asked_of = asks.told t (λ fd. knows.around.fds ask.client part has_part fd)

  -- of files that the hand has
  module _ (files : Files) (some : (f : ℕ) (s : FileState) → map.get files f ≡ Some s → map.get knows.parts.files f ≡ Some s) where
    sized : AreSizedAs files t
    sized f s here = files_are_sized knows.parts.files t knows.around.parts.files f s (some f s here)

    pub asked_with : AreGathered t ask files → IsAsked t x.names ask files
    asked_with gathered = record { part = part_of; asked = asked_of; files = sized; gathered = gathered }

    pub apart_with : PoolsMayLend → LentAreApart → (lent : BlockSet) → ((block : ℕ) → set.contains lent block ≡ true → set.contains pool block ≡ true) → AreApart x.names.tree.dirs files lent
    apart_with lends alone lent within =
        subst (λ (y : NamesPart). AreApart y.tree.dirs files lent) its_names
        (alone knows.parts files lent some (lends k.geometry knows.rest knows.parts lent knows.around.server (λ block is. ap (λ (s : BlockSet). set.contains s block) its_pool ∙ within block is)))

  pub none_some_of : (f : ℕ) (s : FileState) → map.get (map.empty {R = nat_cmp}) f ≡ Some s → map.get knows.parts.files f ≡ Some s
  none_some_of f s here = absurd (none_some (map.get map.empty f) s (map.get-empty {X = FileState} nat_cmp f) here)

  pub one_some_of : (number : ℕ) (file : FileState) (cell : FileCell) → v.files ≡ (number, cell) ∷ [] → cell.value.file ≡ file → (f : ℕ) (s : FileState) → map.get (one_file number (Some file)) f ≡ Some s → map.get knows.parts.files f ≡ Some s
  one_some_of number file cell has is f s here =
      let at : f ≡ number = only_file number (Some file) f (ap is_some here) in
      let its : HasFileCell knows.parts number cell = knows.around.cells.files number cell (subst (Has (number, cell)) (sym has) (inl refl)) in
      ap (map.get knows.parts.files) at ∙ its.file_is ∙ ap Some is ∙ sym (file_here number (Some file)) ∙ ap (map.get (one_file number (Some file))) (sym at) ∙ here

  abbrev w : View
  w = looked_at v n0

  looked : IsNamesHand w ask.client part names n pool
  looked = record { clients = hand.clients; pools = hand.pools; names_are = hand.names_are; files = hand.files }

  -- ---- once it is applied, with these files, which are these cells behind it

  module _ (y : Noted) (left : BlockSet) (by : Actor) (entry : Entry) (desc : Option Desc) (files left_files : Files) (commits left_commits : Commits) (touched : Option ℕ) (after : ℕ → List (ℕ × FileCell)) (of_ask : IsEntryOf ask by 0 entry)
      (gathered : (u : PosixTree) → IsNamesPart x.names u → IsAsk u ask → AreGathered u ask files) (before : AreFilesOfCells v.files files commits) (server : IsServer by) where
    abbrev f : Fresh
    f = fresh_of entry

    abbrev fds : OwnFds
    fds = fds_told part.fds (fd_told f.op f.reply) desc

    next_of : IsNextOf ask.client part f
    next_of = record { low = asks.low; by_client = of_ask.client; asked = asks.asked ∙ ap Some (sym of_ask.asked); seq = of_ask.seq ∙ asks.seq }

    who : IsAlwaysServedSo part.fds f
    who = by_server part.fds f (subst (λ (q : ℕ × Op). NeedsServer part.fds q.0 q.1) (λ i. (sym of_ask.client i, sym of_ask.asked i)) asks.needs) (subst IsServer (sym of_ask.server) server)

    told : (u : PosixTree) → ((fd : ℕ) → map.get part.fds fd ≡ desc_at u f.client fd) → IsAsk u ask
    told u same = asks.told u (λ fd. same fd ∙ ap (λ (c : ℕ). desc_at u c fd) of_ask.client)

    names_value : names.value ≡ x.names
    names_value = ap (λ (q : Noted). q.names) value

    gathered_in : (u : PosixTree) → IsNamesPart names.value u → IsAsk u ask → AreGathered u ask files
    gathered_in u is asked = gathered u (subst (λ (q : NamesPart). IsNamesPart q u) names_value is) asked

    -- served
    module _ (served : is_excused f.reply ≡ false) (ticket : ℕ) (applied : HasServedWith ask x y files left_files commits left_commits pool left touched f.reply desc)
        (left_of : AreFilesOfCells (after ticket) left_files left_commits) (once : AreNumberedOnce (after ticket))
        (cells : (file : ℕ) (c : FileCell) → Has (file, c) (after ticket) → IsNextCell v.files x.names.next ticket touched file c) where
      abbrev was : Serving
      was = record { names = names; files = files; commits = commits; pool = pool }

      abbrev then : Serving
      then = record { names = names_then y ticket names; files = left_files; commits = left_commits; pool = left }

      of_cell : HasServedWith ask (noted_in names) y files left_files commits left_commits pool left touched f.reply desc
      of_cell = subst (λ (q : Noted). HasServedWith ask q y files left_files commits left_commits pool left touched f.reply desc) (sym value) applied

      serves : ServesNames part f ticket ask desc fds w.files (after ticket) was then
      serves = record {
        ask_client = of_ask.client;
        same_op = of_ask.asked;
        no_commit = ap asks_commit of_ask.asked ∙ asks.no_commit;
        served = served;
        told = told;
        gathered = gathered_in;
        files = before;
        left_files = left_of;
        left_once = once;
        lent = of_cell.lent;
        given_back = of_cell.left;
        touched = touched;
        applied = of_cell.applied;
        stay = of_cell.stay;
        fewer = of_cell.fewer;
        unlent = of_cell.unlent;
        cells = λ file c has. subst (λ (q : NamesPart). IsNextCell v.files q.next ticket touched file c) (sym names_value) (cells file c has);
        names_is = refl;
        this_fd = λ fd is. told_here part.fds (fd_told f.op f.reply) desc fd is;
        other_fds = λ fd not. told_else part.fds (fd_told f.op f.reply) desc fd not;
      }

      leaves_are : names_left f w y left desc after ticket ≡ names_leaves fds (after ticket) n then
      leaves_are = λ i. record {
        fds = cond (served i) (first_fds (hand.clients i)) (fds_told (first_fds (hand.clients i)) (fd_told f.op f.reply) desc);
        files = cond (served i) v.files (after ticket);
        pools = each (λ _ s. left) (hand.pools i);
        names = each (λ _ c. cond (served i) c (names_then y ticket c)) (hand.names_are i);
      }

      pub may_served : NamesRequestsMayDraw k.geometry → MayDraw k.geometry k.is_visible w f (names_left f w y left desc after ticket) ticket
      may_served law = subst (λ (q : Leaves). MayDraw k.geometry k.is_visible w f q ticket) (sym leaves_are) (law k.is_visible w ask.client part n f ticket ask desc fds (after ticket) was then looked next_of serves who)

    -- excused
    module _ (excused : is_excused f.reply ≡ true) (ticket : ℕ) (same : y ≡ x) (untaken : left ≡ pool)
        (cause : (e : Excuse) → f.reply ≡ reply.Excused e → (number : ℕ) → (e ≡ excuse.Device number → ⊥) × (e ≡ excuse.Stopped number → ⊥))
        (fits : (e : Excuse) → f.reply ≡ reply.Excused e → (u : PosixTree) → IsAsked u x.names ask files → ExcuseFits u ask.client ask.op e) where
      reason : (e : Excuse) × (f.reply ≡ reply.Excused e)
      reason = excuse_in f.reply excused

      may_excuse : MayExcuseNames w part names files commits f ask reason.0
      may_excuse = record {
        ask_client = of_ask.client;
        same_op = of_ask.asked;
        replied = reason.1;
        told = told;
        gathered = gathered_in;
        files = before;
        device = λ fault is. absurd ((cause reason.0 reason.1 fault).0 is);
        stopped = λ fault is. absurd ((cause reason.0 reason.1 fault).1 is);
        committed = λ fault by is. absurd ((cause reason.0 reason.1 fault).0 is);
        asks = λ fault is. absurd ((cause reason.0 reason.1 fault).1 is);
        fits = λ u asked. fits reason.0 reason.1 u (subst (λ (q : NamesPart). IsAsked u q ask files) names_value asked);
      }

      leaves_stay : names_left f w y left desc after ticket ≡ still_leaves part w
      leaves_stay = λ i. record {
        fds = cond (excused i) (first_fds (hand.clients i)) (fds_told (first_fds (hand.clients i)) (fd_told f.op f.reply) desc);
        files = cond (excused i) v.files (after ticket);
        pools = pools_stay i;
        names = names_stay i;
      }
        where
          pools_stay : each (λ _ s. left) v.pools ≡ v.pools
          pools_stay = ap (each (λ _ s. left)) hand.pools ∙ ap (λ (s : BlockSet). (n, s) ∷ []) untaken ∙ sym hand.pools

          names_stay : each (λ _ c. cond (is_excused f.reply) c (names_then y ticket c)) v.names ≡ v.names
          names_stay = ap (each (λ _ c. cond (is_excused f.reply) c (names_then y ticket c))) hand.names_are ∙ ap (λ (b : Bool). (tt, cond b names (names_then y ticket names)) ∷ []) excused ∙ sym hand.names_are

      pub may_excused : NamesExcusesMayDraw → MayDraw k.geometry k.is_visible w f (names_left f w y left desc after ticket) ticket
      may_excused law = subst (λ (q : Leaves). MayDraw k.geometry k.is_visible w f q ticket) (sym leaves_stay) (law k.geometry k.is_visible w ask.client part names n pool files commits f ticket ask reason.0 looked next_of may_excuse who)
