-- A client that is at home takes its next request: it answers it itself, or readies it for a server.
use Rattle.std.proofs.Common.{◌≡◌, ℕ, ◌+◌, ◌≤◌, ◌<◌, Bool, true, false, cond, List, [], ◌∷◌, ◌++◌, length, Option, Some, None, is_some, sym, refl, ap, ◌∙◌, subst, arith}
use Rattle.std.specs.Prelude.{if◌then◌else◌, IsSome}
use Rattle.std.specs.FinMap as fin
use Rattle.std.specs.List.{AllByRecursion}
use Rattle.std.specs.FinMap.{get-empty}
use Rattle.std.specs.Ordering.{nat_cmp}
use Rattle.ufs_baton.specs.Baton.{IsDrawnWith}
use Rattle.std.proofs.lemmas.List.{length-append}
use Rattle.ufs_client.specs.Own.{IsOwnAnswer, is_own}
use Rattle.ufs_crash_laws.specs.Changes.{asks_commit}
use Rattle.ufs_fds.specs.Descriptors.{AreInRange, AreOf, Descs}
use Rattle.ufs_hints.specs.Hints.{Pairs}
use Rattle.ufs_model.specs.Asks.{IsAsk, desc_of_fd, fd_asked, fd_named, file_in, is_last}
use Rattle.ufs_model.specs.Bounds.{IsBounded}
use Rattle.ufs_model.specs.History.{is_excused}
use Rattle.ufs_model.specs.Posix.{posix}
use Rattle.ufs_model.specs.PosixTree.{Fds, PosixTree, desc_at}
use Rattle.ufs_model.specs.declared.data.Actor.{Actor}
use Rattle.ufs_model.specs.declared.data.Actor.TheVariants as actor
use Rattle.ufs_model.specs.declared.data.Ask.{Ask}
use Rattle.ufs_model.specs.declared.data.Desc.{Desc}
use Rattle.ufs_model.specs.declared.data.Entry.{Entry}
use Rattle.ufs_model.specs.declared.data.Errno.{Errno}
use Rattle.ufs_model.specs.declared.data.Op.{Op}
use Rattle.ufs_model.specs.declared.data.Reply.{Reply}
use Rattle.ufs_model.specs.declared.data.Reply.TheVariants.{Refused}
use Rattle.ufs_joint.specs.Cells.{Start, View}
use Rattle.ufs_joint.specs.FileHands.{own_desc}
use Rattle.ufs_msg.specs.Requests.{Asked}
use Rattle.ufs_msg.specs.There.{IsByHint, IsClientThere, IsServerThere, MayServe, is_by_hint}
use Rattle.ufs_hand_laws.specs.Owned.{one}
use Rattle.ufs_hand_laws.specs.Parts.{AskedPart}
use Rattle.ufs_caller.specs.Callers.{Caller, IsAskBy, entries_in, file_asked, file_by_hint, file_hinted, server_for, server_of_file, used_for}
use Rattle.ufs_caller.specs.Hands.{HasAskedAlone, IsAskFor, IsAway, IsHome, request_in, tickets_in}
use Rattle.ufs_caller.specs.Own.{IsMadeBy}
use Rattle.ufs_caller.specs.Tied.{AreMadeThere, AreServersThere, IsPlaceTied, IsTied, MayGo, errand_of, seen_of}
use Rattle.ufs_caller.specs.Turns.{AnswersItself, HasKept, IsOwn, Sends}
use Rattle.ufs_caller.specs.declared.told.Told.{Told}
use Rattle.ufs_caller.specs.declared.trip.Trip.{Trip}
use Rattle.ufs_caller.proofs.Homes.{ask_for, entries_many, own_same}
use Rattle.ufs_caller.proofs.Made.{none_listed}
use Rattle.ufs_caller.proofs.OwnRefusals.{own_refused}
use Rattle.ufs_caller.proofs.Places.{no_trip, request_is, some_same}
use Rattle.ufs_caller.proofs.Servers.{server_there, used_there}
use Rattle.ufs_caller.proofs.Tries.{seen}

-- what is told with a request is so in each tree that has its client's descriptors
pub tells_of : (ask : Ask) (request : Op) (table : Descs) → ask.op ≡ request → ((all : Fds) (c : ℕ) → AreOf all c table → ask.desc ≡ desc_of_fd all c (fd_named request))
    → ((all : Fds) (c : ℕ) → AreOf all c table → ask.fd ≡ fd_asked all c request) → ((all : Fds) (c : ℕ) → AreOf all c table → ask.last ≡ is_last all c request)
    → (t : PosixTree) → AreOf t.fds ask.client table → IsAsk t ask
tells_of ask request table asked desc fd last t are = record {
  desc = desc t.fds ask.client are ∙ ap (λ (o : Op). desc_of_fd t.fds ask.client (fd_named o)) (sym asked);
  fd = fd t.fds ask.client are ∙ ap (fd_asked t.fds ask.client) (sym asked);
  last = last t.fds ask.client are ∙ ap (is_last t.fds ask.client) (sym asked);
}

-- it goes to a worker by a hint alone
by_hint_may : (to : Actor) (ask : Ask) → IsByHint ask → MayServe to ask
by_hint_may (actor.Worker w) ask h = h
by_hint_may actor.Primary ask h = tt
by_hint_may (actor.Client c) ask h = tt

may_serve : (hints : Pairs) (ask : Ask) → MayServe (server_of_file hints (file_by_hint ask)) ask
may_serve hints ask = by (is_by_hint ask.op) refl ask.desc refl
  where
    by_file : (d : Desc) (o : Option ℕ) → is_by_hint ask.op ≡ true → ask.desc ≡ Some d → d.file ≡ o → MayServe (server_of_file hints o) ask
    by_file d None kind has of = tt
    by_file d (Some file) kind has of = by_hint_may (server_of_file hints (Some file)) ask (record { kind = kind; desc = d; has = has; file = file; of = of })

    by : (b : Bool) → is_by_hint ask.op ≡ b → (d : Option Desc) → ask.desc ≡ d → MayServe (server_of_file hints (if b then file_in d else None)) ask
    by false kind d has = tt
    by true kind None has = tt
    by true kind (Some d) has = by_file d d.file kind has refl

module _ (k : Start) (number : ℕ) (told : List Told) (table : Descs) (left left' : List Op) (hand : View) (kept : Option Asked) (trip : Option Trip) (hints : Pairs) (room : ℕ) (tied : IsTied k number told table left hand kept trip hints room)
    (a : Caller) (view : seen number told table left hand kept trip hints ≡ a) (idle : a.errand ≡ None) where
  pub none_under_way : trip ≡ None
  none_under_way = no_trip hand kept trip (ap (λ (c : Caller). c.errand) view ∙ idle)

  pub place_home : IsHome number (entries_in told) table hand × (kept ≡ None)
  place_home = subst (IsPlaceTied k number told table hand kept) none_under_way tied.place

  seen_home : a.seen ≡ hand.seen
  seen_home = sym (ap (λ (c : Caller). c.seen) view) ∙ ap (seen_of hand) none_under_way

  module _ (ask : Ask) (request : Op) (client : ask.client ≡ number) (seq : ask.seq ≡ length told) (asked : ask.op ≡ request) (next : left ≡ request ∷ left')
      (tells : (t : PosixTree) → AreOf t.fds ask.client table → IsAsk t ask) where
    pub home : IsHome ask.client (entries_in told) table hand
    home = subst (λ (n : ℕ). IsHome n (entries_in told) table hand) (sym client) place_home.0

    pub for : IsAskFor ask home.self
    for = ask_for ask (entries_in told) table hand home (seq ∙ sym (entries_many told)) tells

    own_at : (own : Bool) → ((t : PosixTree) → IsAsk t ask → is_own t ask.client ask.op ≡ own) → IsOwn own a request
    own_at own is = subst (λ (c : Caller). IsOwn own c request) view (λ t are. (λ i. is_own t (sym client i) (sym asked i)) ∙ is t (tells t (subst (λ (n : ℕ). AreOf t.fds n table) (sym client) are)))

    all_bounded : AllByRecursion IsBounded (request ∷ left')
    all_bounded = subst (AllByRecursion IsBounded) next tied.bounded

    pub bounded : IsBounded ask.op
    bounded = subst IsBounded (sym asked) all_bounded.0

    next_of : a.left ≡ request ∷ left'
    next_of = ap (λ (c : Caller). c.left) (sym view) ∙ next

    one_is : one (is_some trip) ≡ 0
    one_is = ap (λ (t : Option Trip). one (is_some t)) none_under_way

    next_many : length left ≡ 1 + length left'
    next_many = let e : length left ≡ Rattle.std.proofs.Common.suc (length left') = ap (length {A = Op}) next in omega (arith, e)

    -- ---- it answers itself

    module _ (told' : List Told) (table' : Descs) (hand' : View) (room' : ℕ) (x : Told) (told_is : told' ≡ told ++ x ∷ []) (home' : IsHome ask.client (entries_in told') table' hand')
        (ranged : AreInRange table') (made : AreMadeThere k ask.client told') (same_room : room' ≡ room) where
      many : length told' ≡ length told + 1
      many = ap (length {A = Told}) told_is ∙ length-append told (x ∷ [])

      pub tied_own : IsTied k number told' table' left' hand' kept trip hints room'
      tied_own = record {
        low = tied.low;
        there = tied.there;
        closed = tied.closed;
        ranged = ranged;
        place = subst (IsPlaceTied k number told' table' hand' kept) (sym none_under_way) (subst (λ (n : ℕ). IsHome n (entries_in told') table' hand') client home', place_home.1);
        servers = tied.servers;
        made = subst (λ (n : ℕ). AreMadeThere k n told') client made;
        bounded = all_bounded.1;
        few = let m = many in let w = one_is in let n = next_many in let f = tied.few in omega (arith, m, w, n, f);
        room_is = let m = many in let w = one_is in let n = next_many in let f = tied.room_is in omega (arith, m, w, n, f, same_room);
      }

    module _ (reply : Reply) (desc : Option Desc) (own : (t : PosixTree) → IsAsk t ask → is_own t ask.client ask.op ≡ true) (is : (t : PosixTree) → IsAsk t ask → IsOwnAnswer t ask.client ask.op reply desc) (plain : is_excused reply ≡ false)
        (since upto : ℕ) (told' : List Told) (table' : Descs) (hand' : View) (entry : Entry) (told_is : told' ≡ told ++ record { entry = entry; via = [] } ∷ []) (made : IsMadeBy ask reply entry) (late : hand.seen ≤ entry.ticket) (within : entry.ticket < hand'.seen) (drawn : IsDrawnWith since upto entry)
        (after : (t : PosixTree) → AreOf t.fds ask.client table → AreOf (posix t ask.client ask.op).0.fds ask.client table') where
      abbrev new : Caller
      new = seen number told' table' left' hand' kept trip hints

      pub answers : AnswersItself since upto a new
      answers = record {
        idle = idle;
        idle' = ap (errand_of hand' kept) none_under_way;
        request = request;
        next = next_of;
        own = own_at true own;
        entry = entry;
        told = told_is ∙ ap (λ (c : Caller). c.told ++ record { entry = entry; via = [] } ∷ []) view;
        client = made.client ∙ client ∙ ap (λ (c : Caller). c.number) view;
        seq = made.seq ∙ seq ∙ ap (λ (c : Caller). length c.told) view;
        by = made.by ∙ ap actor.Client (client ∙ ap (λ (c : Caller). c.number) view);
        asked = made.asked ∙ asked;
        later = subst (λ (n : ℕ). n ≤ entry.ticket) (sym seen_home) late;
        seen = subst (λ (n : ℕ). entry.ticket < n) (sym (ap (seen_of hand') none_under_way)) within;
        drawn = drawn;
        reply = subst (λ (c : Caller). (t : PosixTree) → AreOf t.fds c.number c.fds → entry.reply ≡ (posix t c.number request).1) view
            (λ t are. made.reply' ∙ (is t (tells t (here t are))).replied ∙ (λ i. (posix t (client i) (asked i)).1));
        plain = ap is_excused made.reply' ∙ plain;
        refused = refused;
        fds = subst (λ (c : Caller). (t : PosixTree) → AreOf t.fds c.number c.fds → AreOf (posix t c.number request).0.fds c.number table') view
            (λ t are. subst (λ (x : ℕ × Op). AreOf (posix t x.0 x.1).0.fds x.0 table') (λ i. (client i, asked i)) (after t (here t are)));
        hints = ap (λ (c : Caller). c.hints) view;
      }
        where
          here : (t : PosixTree) → AreOf t.fds number table → AreOf t.fds ask.client table
          here t are = subst (λ (n : ℕ). AreOf t.fds n table) (sym client) are

          -- on the tree that has its descriptors
          refused : asks_commit request ≡ true → (errno : Errno) × (entry.reply ≡ Refused errno)
          refused asks =
              let t = home.tree in
              let there = tells t (λ fd. sym (home.of fd) ∙ home.same fd) in
              let no = own_refused t ask.client ask.op (own t there) (ap asks_commit asked ∙ asks) in
              (no.0, made.reply' ∙ (is t there).replied ∙ no.1)

    -- ---- it is readied

    module _ (needs : (t : PosixTree) → IsAsk t ask → is_own t ask.client ask.op ≡ false) (go : Trip) (hints' : Pairs)
        (to_is : go.to ≡ server_of_file hints (file_by_hint ask)) (hints_are : hints' ≡ used_for hints (file_in ask.desc)) (via_is : go.via ≡ []) (file_is : go.file ≡ file_in ask.desc) (first : go.is_again ≡ false)
        (hand' : View) (r : Asked) (r_is : r.ask ≡ ask)
        (away : (after : AskedPart) × HasAskedAlone ask.client after hand' × (after.entries ≡ home.self.entries) × (after.fds ≡ home.self.fds) × (after.asked ≡ Some ask.op) × (hand.seen ≤ after.tickets)) where
      desc_is : ask.desc ≡ own_desc table (fd_named request)
      desc_is = for.desc ∙ own_same home.self.fds table home.same (fd_named ask.op) ∙ ap (λ (o : Op). own_desc table (fd_named o)) asked

      hinted_is : file_by_hint ask ≡ file_hinted table request
      hinted_is i = if is_by_hint (asked i) then file_in (desc_is i) else None

      is_away : IsAway number (entries_in told) table request hand'
      is_away = record {
        before = away.0;
        alone = subst (λ (n : ℕ). HasAskedAlone n away.0 hand') client away.1;
        entries_are = away.2 ∙ home.entries_are;
        same = λ fd. ap (λ fds. fin.get fds fd) away.3 ∙ home.same fd;
        asked = away.4 ∙ ap (λ (o : Op). Some o) asked;
      }

      file_is_asked : file_in ask.desc ≡ file_asked table request
      file_is_asked = ap file_in desc_is

      by_ask : IsAskBy number (length told) table request ask
      by_ask = record { client = client; seq_is = seq; asked = asked; desc = desc_is; told = λ t are. tells t (subst (λ (n : ℕ). AreOf t.fds n table) (sym client) are) }

      by_r : IsAskBy number (length told) table request r.ask
      by_r = subst (IsAskBy number (length told) table request) (sym r_is) by_ask

      few_was : length told + (1 + length left') ≤ 65536
      few_was = let w = one_is in let n = next_many in let f = tied.few in omega (arith, w, n, f)

      room_was : length told + (1 + length left') ≤ room
      room_was = let w = one_is in let n = next_many in let f = tied.room_is in omega (arith, w, n, f)

      pub tied_ready : IsTied k number told table left' hand' (Some r) (Some go) hints' room
      tied_ready = record {
        low = tied.low;
        there = tied.there;
        closed = tied.closed;
        ranged = tied.ranged;
        place = record {
          request = request;
          away = is_away;
          there = subst (IsServerThere k) (sym to_is) (server_there k hints tied.servers (file_by_hint ask));
          via = none_listed k go.via via_is;
          file = file_is ∙ ap file_in desc_is;
          kept_may = λ x e. subst (MayGo number (length told) table request go.to) (some_same r x e) (record {
            ask = by_r;
            may = subst (λ (x : Actor × Ask). MayServe x.0 x.1) (λ i. (sym to_is i, sym r_is i)) (may_serve hints ask);
          });
        };
        servers = subst (AreServersThere k) (sym hints_are) (used_there k hints tied.servers (file_in ask.desc));
        made = tied.made;
        bounded = all_bounded.1;
        few = few_was;
        room_is = room_was;
      }

      abbrev ready : Caller
      ready = seen number told table left' hand' (Some r) (Some go) hints'

      pub has_kept : HasKept ready
      has_kept = (record { request = request_in hand'.asked; to = go.to; via = go.via; kept = Some r; is_again = go.is_again }, r, refl, refl)

      pub sends : Sends go.to r (Some r) a ready
      sends = record {
        idle = idle;
        request = request;
        next = next_of;
        needs = own_at false needs;
        ask = subst (λ (c : Caller). IsAskBy c.number (length c.told) c.fds request r.ask) view by_r;
        server = to_is ∙ ap (server_of_file hints) hinted_is ∙ ap (λ (c : Caller). server_for c.hints c.fds request) view;
        errand = λ i. Some (record { request = request_is number told table request hand' is_away i; to = go.to; via = via_is i; kept = Some r; is_again = first i });
        hints = hints_are ∙ ap (used_for hints) file_is_asked ∙ ap (λ (c : Caller). used_for c.hints (file_asked c.fds request)) view;
        told = ap (λ (c : Caller). c.told) view;
        later = let s = seen_home in let t : tickets_in hand'.asked ≡ away.0.tickets = ap tickets_in away.1.asked in let l = away.5 in omega (arith, s, t, l);
        fds = ap (λ (c : Caller). c.fds) view;
      }

-- ---- at the start

pub no_get : (fd : ℕ) → fin.get (fin.empty {K = ℕ} {X = Desc} {R = nat_cmp}) fd ≡ None
no_get fd = get-empty nat_cmp fd

pub starts : (k : Start) (number : ℕ) (hand : View) (left : List Op) (room : ℕ) → number < 16 → IsClientThere k number → ((fd : ℕ) → desc_at k.tree number fd ≡ None) → IsHome number [] fin.empty hand → length left ≤ 65536 → AllByRecursion IsBounded left → length left ≤ room
    → IsTied k number [] fin.empty left hand None None [] room
starts k number hand left room low there closed home few bounded fits = record {
  low = low;
  there = there;
  closed = closed;
  ranged = λ fd some. absurd (no_desc (subst IsSome (no_get fd) some));
  place = (home, refl);
  servers = λ file server c. absurd (let within = c.1 in omega arith);
  made = λ x none. absurd none;
  bounded = bounded;
  few = omega (arith, few);
  room_is = omega (arith, fits);
}
  where
    no_desc : IsSome {T = Desc} None → ⊥
    no_desc e = cc
