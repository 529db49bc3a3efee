-- The primary's turn in a session in which it serves alone.
use Rattle.std.proofs.Common.{◌≡◌, ◌⊎◌, inl, inr, ⊎_elim, ℕ, zero, suc, ◌+◌, ◌-◌, ◌≤◌, ◌<◌, Bool, true, false, eqb, eqb-true, length, slice_get, List, [], ◌∷◌, ◌++◌, Option, None, Some, refl, ap, sym, ◌∙◌, subst, true≢false, arith}
use Rattle.std.proofs.lemmas.Option.{slice_get_within}
use Rattle.std.specs.FinMap as fin
use Rattle.std.specs.FinMap.{get-empty}
use Rattle.std.specs.Ordering.{nat_cmp}
use Rattle.std.specs.Prelude.{unwrap_or}
use Rattle.circular_buffer.specs.Buffer.{Buffer}
use Rattle.ufs_primary.specs.OfAtPrimary.{server_at, server_told}
use Rattle.ufs_primary.specs.OfAtPrimary.{AreTidiedFiles, IsRoomMade}
use Rattle.ufs_primary.specs.OfAtPrimary.{All, ByNames, IsServed, IsServedInRoom, Lacked, OnFile, OnNone}
use Rattle.ufs_primary.specs.OfAtPrimary.{StockState}
use Rattle.ufs_primary.specs.OfBaton.{IsDrawnWith}
use Rattle.ufs_caller.specs.Callers.{Caller, Errand}
use Rattle.ufs_hand_laws.proofs.Keys.{itself}
use Rattle.ufs_hand_laws.proofs.Owning.{has_append}
use Rattle.ufs_hand_laws.specs.Owned.{Has, one, weigh}
use Rattle.ufs_primary.specs.OfHome.{HomeState}
use Rattle.ufs_primary.specs.OfHome.{RingsGo, letter_of}
use Rattle.ufs_primary.specs.OfHome.{server_named}
use Rattle.ufs_joint.specs.Cells.{FileCell, Start, View}
use Rattle.ufs_model.specs.Asks.{file_in}
use Rattle.ufs_model.specs.declared.data.Actor.{Actor}
use Rattle.ufs_model.specs.declared.data.Actor.TheVariants as actor
use Rattle.ufs_model.specs.declared.data.Ask.{Ask}
use Rattle.ufs_msg.proofs.Places.{get_set}
use Rattle.ufs_msg.specs.Answers.{Told}
use Rattle.ufs_msg.specs.Requests.{Asked}
use Rattle.ufs_msg.specs.Rows.{HappensAt}
use Rattle.ufs_msg.specs.Servers.{HappensFor, IsSoFor}
use Rattle.ufs_msg.specs.There.{IsServerThere, client_count}
use Rattle.ufs_msg.specs.declared.answer.Answer.{Answer}
use Rattle.ufs_msg.specs.declared.answer.Answer.TheVariants as answer'
use Rattle.ufs_msg.specs.declared.letter.Letter.{Letter}
use Rattle.ufs_owner.specs.Owners.{Files, nothing_known, owner_at}
use Rattle.ufs_owner.specs.declared.owner.Standing.{Standing}
use Rattle.ufs_owner.specs.declared.owner.Owner.{Owner}
use Rattle.ufs_owner.specs.declared.owner.Owner.TheVariants as owner
use Rattle.ufs_primary.specs.Letters as front
use Rattle.ufs_primary.specs.Primary.{PrimaryState}
use Rattle.ufs_primary.specs.Turns as primary
use Rattle.ufs_primary.specs.Waiting.{AllWait}
use Rattle.ufs_primary.specs.declared.turn.PrimaryTurn.{PrimaryTurn}
use Rattle.ufs_primary.specs.declared.turn.PrimaryTurn.TheVariants as did
use Rattle.ufs_ring.specs.Buffers.{HasGained, HasLost, IsEmpty}
use Rattle.ufs_primary.specs.OfServing.{IsFullFor, IsSaid, said}
use Rattle.ufs_primary.specs.OfServing.{AllWent, AreLeft, GoInOrder}
use Rattle.ufs_rounds.specs.Alone.{HasNothingOut, IsServedThere, ServesAlone, asked_by, gone_of, unkept}
use Rattle.ufs_rounds.specs.Moves.{primary_moved}
use Rattle.ufs_rounds.specs.Rings.{Answers, Gets, HasNoLetter, HasNoRequest, IsAnswerFull, IsLetterFull, IsQuiet, Reads, Rings, Sends}
use Rattle.ufs_rounds.specs.Turns.{GlobalState, IsPrimaryTurn}
use Rattle.ufs_rounds.proofs.Alone.{AreNear, held, length_at, near_quiet, near_same, near_then, none_joined, nothing_at, one_joined, weigh_set}
use Rattle.ufs_rounds.proofs.AloneClients.{kept_of, todo}
use Rattle.ufs_rounds.proofs.Asking.{set_there}
use Rattle.ufs_rounds.proofs.Together.{length_push}

-- ---- what goes in order, where nothing or one thing is kept

module _ {A Q : Type 0} (sends : Q → A → Q → Type 0) (same : Q → Q → Type 0) (full : Q → A → Type 0) where
  none_left : (new : List A) (p q : Q) → AreLeft sends same full new p q → new ≡ [] → q ≡ p
  none_left [] p q left none = left
  none_left (x ∷ new) p q left none = absurd (clash none)
    where
      clash : x ∷ new ≡ [] → ⊥
      clash e = cc

  one_left : (x : A) (new : List A) (p q : Q) → AreLeft sends same full new p q → new ≡ x ∷ [] → same p q × full p x
  one_left x new p q left is = subst (λ (l : List A). AreLeft sends same full l p q) is left

  none_went : (gone : List A) (p q : Q) → AllWent sends same full gone p q → gone ≡ [] → q ≡ p
  none_went gone p q went none = subst (λ (l : List A). AllWent sends same full l p q) none went

  -- nothing was kept
  pub none_goes : (old new : List A) (p q : Q) → old ≡ [] → GoInOrder sends same full old new p q → (new ≡ []) × (q ≡ p)
  none_goes old new p q none go =
      let n = none_joined go.gone new (sym go.parted ∙ none) in
      (n.1, none_left new go.mid q go.left n.1 ∙ none_went go.gone p go.mid go.went n.0)

  -- one was, and went, or stays
  pub one_goes : (x : A) (old new : List A) (p q : Q) → old ≡ x ∷ [] → GoInOrder sends same full old new p q → ((new ≡ []) × sends p x q) ⊎ full p x
  one_goes x old new p q is go = by (one_joined x go.gone new (sym is ∙ go.parted))
    where
      by : ((go.gone ≡ []) × (new ≡ x ∷ [])) ⊎ ((go.gone ≡ x ∷ []) × (new ≡ [])) → ((new ≡ []) × sends p x q) ⊎ full p x
      by (inl n) = inr (subst (λ (r : Q). full r x) (none_went go.gone p go.mid go.went n.0) (one_left x new go.mid q go.left n.1).1)
      by (inr n) =
          let went = subst (λ (l : List A). AllWent sends same full l p go.mid) n.0 go.went in
          inl (n.1, subst (sends p x) (sym (none_left new go.mid q go.left n.1 ∙ went.2)) went.1)

-- ---- owners

pub primary_owns : (owners : Files) (file : ℕ) → owners ≡ fin.empty → owner_at owners file ≡ owner.Primary
primary_owns owners file none = ap (λ (o : Files). owner_at o file) none ∙ ap (λ (o : Option Standing). (unwrap_or o nothing_known).owner) (get-empty nat_cmp file)

primary_named : (o : Owner) (who : Actor) → o ≡ owner.Primary → Some (server_named o) ≡ Some who → actor.Primary ≡ who
primary_named o who same e = some_who (ap (λ (x : Owner). Some (server_named x)) (sym same) ∙ e)
  where
    some_who : Some actor.Primary ≡ Some who → actor.Primary ≡ who
    some_who e' = cc

-- no owner is told but the primary
pub told_there : (k : Start) (owners : Files) (before after : Option ℕ) → owners ≡ fin.empty → (who : Actor) → server_told owners before after ≡ Some who → IsServerThere k who
told_there k owners before after none who is = at after is
  where
    clash : None ≡ Some who → ⊥
    clash e = cc

    one : (o : Option ℕ) → server_at owners o ≡ Some who → IsServerThere k who
    one None e = absurd (clash e)
    one (Some file) e = subst (IsServerThere k) (primary_named (owner_at owners file) who (primary_owns owners file none) e) tt

    at : (o : Option ℕ) → server_told owners before o ≡ Some who → IsServerThere k who
    at None e = one before e
    at (Some file) e = one (Some file) e

-- ---- a request is served

clash_some : {A : Type 0} {X : Type 0} (o : Option A) (x : A) → o ≡ None → o ≡ Some x → X
clash_some o x none some = absurd (clash (sym none ∙ some))
  where
    clash : None ≡ Some x → ⊥
    clash e = cc

-- the table stays, the entry is the request's client's, and it names no owner but a server that is there
abbrev pub IsToldSo : Start → StockState → StockState → Ask → Told → Type 0
IsToldSo k s t ask told = (t.home.owners ≡ s.home.owners) × (told.entry.client ≡ ask.client) × ((who : Actor) → told.owner ≡ Some who → IsServerThere k who)

told_so : (k : Start) (visible : Bool) (before after : Option View) (s t : StockState) (ask : Ask) (told : Told) → s.home.owners ≡ fin.empty → IsServed visible before after s t ask told → IsToldSo k s t ask told
told_so k visible before after s t ask told none (OnFile x) = (ap (λ (h : HomeState). h.owners) x.home, x.served.of_ask.client, λ who e. by who (sym x.served.owner ∙ e))
  where
    by : (who : Actor) → Some actor.Primary ≡ Some who → IsServerThere k who
    by who e = subst (IsServerThere k) same tt
      where
        same : actor.Primary ≡ who
        same = cc
told_so k visible before after s t ask told none (ByNames x) =
    (ap (λ (h : HomeState). h.owners) x.home, x.served.of_ask.client, λ who e. told_there k s.home.owners (file_in ask.desc) (file_in told.desc) none who (sym x.served.owner ∙ e))
told_so k visible before after s t ask told none (OnNone x) = (ap (λ (z : StockState). z.home.owners) x.rest, x.served.of_ask.client, λ who e. clash_some told.owner who x.served.owner e)
told_so k visible before after s t ask told none (All x) = (ap (λ (z : StockState). z.home.owners) x.rest, x.served.of_ask.client, λ who e. clash_some told.owner who x.served.owner e)
told_so k visible before after s t ask told none (Lacked x) =
    (ap (λ (z : StockState). z.home.owners) x.rest, x.excused.of_ask.client, λ who e. told_there k s.home.owners (file_in ask.desc) None none who (sym x.excused.owner ∙ e))

-- Where room was made for it before, that left the table as it was, too.
room_owners : (visible : Bool) (before then : Option View) (s t : StockState) → IsRoomMade visible before then s t → t.home.owners ≡ s.home.owners
room_owners visible before then s t room = by room.files
  where
    by : ((t.home ≡ s.home) × (room.most ≤ 1)) ⊎ ((a : AreTidiedFiles visible s t) × (room.most ≤ 1 + 2 + length a.olds)) → t.home.owners ≡ s.home.owners
    by (inl x) = ap (λ (h : HomeState). h.owners) x.0
    by (inr x) = ap (λ (h : HomeState). h.owners) x.0.home

told_in_room : (k : Start) (visible : Bool) (before after : Option View) (s t : StockState) (ask : Ask) (told : Told) → s.home.owners ≡ fin.empty → IsServedInRoom visible before after s t ask told → IsToldSo k s t ask told
told_in_room k visible before after s t ask told none x =
    let same = room_owners visible before x.then s x.between x.room in
    let so = told_so k visible x.then after x.between t ask told (same ∙ none) x.served in
    (so.0 ∙ same, so.1, so.2)

-- ---- what the primary did

-- whose request comes out of a ring
got : {N : Type 0} (p q : Rings N) (r : Asked) (who : Actor) → p.requests.workers.items ≡ [] → HappensFor HasLost HasLost p.requests who r q.requests → HasLost p.requests.primary r q.requests.primary × (q.requests.workers.items ≡ p.requests.workers.items)
got p q r actor.Primary none h = h
got p q r (actor.Worker worker) none h = nothing_at p.requests.workers.items (worker - 1) h.1.was none h.1.stood
got p q r (actor.Client client) none h = absurd h

none_got : {N : Type 0} (p : Rings N) (who : Actor) → p.requests.workers.items ≡ [] → IsSoFor IsEmpty IsEmpty p.requests who → p.requests.primary.items ≡ []
none_got p actor.Primary none h = h
none_got p (actor.Worker worker) none h = nothing_at p.requests.workers.items (worker - 1) h.0 none h.1
none_got p (actor.Client client) none h = absurd h

pub caller_at : {A : Type 0} (xs : List A) (i : ℕ) → i < length xs → (x : A) × (slice_get xs i ≡ Some x)
caller_at [] i low = absurd (omega (arith, low))
caller_at (x ∷ xs) zero low = (x, refl)
caller_at (x ∷ xs) (suc i) low = caller_at xs i (omega (arith, low))

few_gone : (o : Option Errand) → gone_of o ≤ 1
few_gone None = omega arith
few_gone (Some e) = by e.kept
  where
    by : (r : Option Asked) → unkept r ≤ 1
    by None = omega arith
    by (Some r) = omega arith

module _ {N : Type 0} (k : Start) (s t : GlobalState N) (w : ServesAlone k s) where
  -- nothing was there to do
  pub record HasRested (o : PrimaryTurn) : Type 0 where
    pub says : o ≡ did.Idle
    pub out : HasNothingOut t.primary
    pub rings : AreNear s.rings t.rings
    pub empty : (s.rings.requests.primary.items ≡ []) ⊎ (client_count k ≡ 0)

  -- the front request was answered
  pub record HasServed (o : PrimaryTurn) : Type 0 where
    pub says : o ≡ did.Served
    pub out : HasNothingOut t.primary
    pub letters : t.rings.letters.primary ≡ s.rings.letters.primary
    pub workers : t.rings.requests.workers.items ≡ s.rings.requests.workers.items
    pub request : Asked
    pub lost : HasLost s.rings.requests.primary request t.rings.requests.primary
    pub answer : Answer N
    pub there : IsServedThere k answer
    pub told : Told
    pub tells : answer ≡ answer'.Served told
    pub mine : told.entry.client ≡ request.ask.client
    pub drawn : IsDrawnWith s.seen t.seen told.entry
    pub gained : HappensAt HasGained s.rings.answers request.ask.client answer t.rings.answers
    pub stock : StockState
    pub served : IsServedInRoom k.is_visible s.store t.store stock t.primary.stock request.ask told

  -- the client whose request came has room for its answer
  room_for : (r : Asked) (p q : Rings N) → AreNear s.rings p → HasLost p.requests.primary r q.requests.primary → q.answers ≡ p.answers → IsAnswerFull q r.ask.client → ⊥
  room_for r p q near lost same full =
      let at = ap (λ (l : List (Buffer (Answer N))). slice_get l r.ask.client) (sym near.answers ∙ sym same) ∙ full.1 in
      let within = slice_get_within s.rings.answers r.ask.client full.0 at in
      let each = w.each in
      let c = caller_at s.clients r.ask.client (omega (arith, within, each)) in
      let once = w.once r.ask.client c.0 full.0 c.1 at in
      let asked = ap (λ (b : Buffer Asked). asked_by r.ask.client b.items) (sym near.requests) ∙ ap (asked_by r.ask.client) lost.0 in
      let mine = ap one (itself r.ask.client) in
      let few = few_gone c.0.errand in
      let room = w.rings.rooms r.ask.client full.0 at in
      let many : full.0.capacity ≤ length full.0.items = full.2 in
      omega (arith, once, asked, mine, few, room, many)

  module _ (o : PrimaryTurn) (h : IsPrimaryTurn k s.store t.store s.seen t.seen s.primary t.primary s.rings t.rings o) where
    letters_went : (h.goes.sent.stock.home.letters ≡ s.primary.stock.home.letters) × (h.goes.sent.stock.home.owners ≡ s.primary.stock.home.owners) × (h.goes.kept.mid ≡ h.lent)
    letters_went = subst
        (λ (n : ℕ). RingsGo (λ w r m z. Sends r (actor.Worker w) (letter_of m) z) IsQuiet (λ r w. IsLetterFull r (actor.Worker w)) n s.primary.stock.home.letters h.goes.sent.stock.home.letters s.primary.stock.home.owners h.goes.sent.stock.home.owners h.lent h.goes.kept.mid)
        w.none_there h.goes.kept.letters

    answers_went : (h.goes.sent.answers ≡ []) × (h.goes.sent_by ≡ h.goes.kept.mid)
    answers_went = none_goes (IsSaid Answers IsQuiet IsAnswerFull) IsQuiet (IsFullFor Answers IsQuiet IsAnswerFull) s.primary.answers h.goes.sent.answers h.goes.kept.mid h.goes.sent_by w.nothing_out.answers h.goes.kept.answer

    sent_by_is : h.goes.sent_by ≡ h.lent
    sent_by_is = answers_went.1 ∙ letters_went.2

    near_sent : AreNear s.rings h.goes.sent_by
    near_sent = near_then s.rings h.lent h.goes.sent_by (near_quiet s.rings h.lent h.quiet) (near_same h.lent h.goes.sent_by sent_by_is)

    sent_coming : h.goes.sent.coming ≡ None
    sent_coming = ap (λ (x : PrimaryState). x.coming) h.goes.kept.rest ∙ w.nothing_out.coming

    -- no letter is there
    abbrev NoLetter : Type 0
    NoLetter = IsQuiet h.goes.sent_by h.goes.lettered_by × (h.goes.made ≡ None) × (h.goes.lettered.stock.home ≡ h.goes.sent.stock.home) × (h.goes.lettered.coming ≡ None)

    no_letter : NoLetter
    no_letter = by
        (subst (λ (c : Option FileCell). front.IsFrontDone IsQuiet Reads HasNoLetter c h.goes.sent.stock.home h.goes.lettered.stock.home h.goes.lettered.coming h.goes.sent_by h.goes.lettered_by h.goes.made) sent_coming h.goes.letter.front)
      where
        server : h.goes.sent_by.server ≡ actor.Primary
        server = ap (λ (r : Rings N). r.server) sent_by_is ∙ h.mine

        none : h.goes.sent_by.letters.primary.items ≡ []
        none = (λ i. (near_sent.letters i).items) ∙ w.rings.no_letter

        clash : (l : Letter FileCell) (ls : List (Letter FileCell)) → l ∷ ls ≡ [] → ⊥
        clash l ls e = cc

        by : front.IsNextDone IsQuiet Reads HasNoLetter h.goes.sent.stock.home h.goes.lettered.stock.home h.goes.lettered.coming h.goes.sent_by h.goes.lettered_by h.goes.made → NoLetter
        by (inl x) = (x.0, x.2, x.3, x.4)
        by (inr x) =
            let read = subst (λ (who : Actor). HappensFor HasLost HasLost h.goes.sent_by.letters who x.0 h.goes.lettered_by.letters) server x.1.0 in
            absurd (clash x.0 h.goes.lettered_by.letters.primary.items (sym read.0.0 ∙ none))

    near_lettered : AreNear s.rings h.goes.lettered_by
    near_lettered = near_then s.rings h.goes.sent_by h.goes.lettered_by near_sent (near_quiet h.goes.sent_by h.goes.lettered_by no_letter.0)

    out_lettered : HasNothingOut h.goes.lettered
    out_lettered = record {
      owners = ap (λ (x : HomeState). x.owners) no_letter.2 ∙ letters_went.1 ∙ w.nothing_out.owners;
      coming = no_letter.3;
      answers = ap (λ (x : PrimaryState). x.answers) h.goes.letter.rest ∙ answers_went.0;
      waiting = ap (λ (x : PrimaryState). x.waiting) h.goes.letter.rest ∙ ap (λ (x : PrimaryState). x.waiting) h.goes.kept.rest ∙ w.nothing_out.waiting;
    }

    no_ring : h.goes.lettered_by.requests.workers.items ≡ []
    no_ring = near_lettered.workers ∙ w.rings.no_ring

    at_primary : (file : ℕ) → owner_at h.goes.lettered.stock.home.owners file ≡ owner.Primary
    at_primary file = primary_owns h.goes.lettered.stock.home.owners file out_lettered.owners

    -- the front request
    front_done : (o : PrimaryTurn) → primary.IsFront Answers IsQuiet IsAnswerFull k.is_visible s.store t.store s.seen t.seen (client_count k) Gets HasNoRequest h.goes.lettered t.primary h.goes.lettered_by t.rings o → HasServed o
    front_done did.Served f = by f.done.served
      where
        lost : HasLost h.goes.lettered_by.requests.primary f.request f.mid.requests.primary × (f.mid.requests.workers.items ≡ h.goes.lettered_by.requests.workers.items)
        lost = got h.goes.lettered_by f.mid f.request h.goes.lettered_by.server no_ring f.came.0

        told : Told
        told = f.done.told

        -- its answer goes
        served : IsServedInRoom k.is_visible s.store t.store h.goes.lettered.stock t.primary.stock f.request.ask told → HasServed did.Served
        served in_room = answered (one_goes (IsSaid Answers IsQuiet IsAnswerFull) IsQuiet (IsFullFor Answers IsQuiet IsAnswerFull) (inl told) (h.goes.lettered.answers ++ inl told ∷ []) t.primary.answers f.mid t.rings (λ i. out_lettered.answers i ++ inl told ∷ []) f.done.answer)
          where
            so : IsToldSo k h.goes.lettered.stock t.primary.stock f.request.ask told
            so = told_in_room k k.is_visible s.store t.store h.goes.lettered.stock t.primary.stock f.request.ask told out_lettered.owners in_room

            named : (x : Answer N) → said x ≡ inl told → x ≡ answer'.Served told
            named (answer'.Served y) e = ap answer'.Served same
              where
                same : y ≡ told
                same = cc
            named (answer'.Redirect y) e = absurd (clash e)
              where
                clash : inr y ≡ inl told → ⊥
                clash e' = cc

            answered : ((t.primary.answers ≡ []) × IsSaid Answers IsQuiet IsAnswerFull f.mid (inl told) t.rings) ⊎ IsFullFor Answers IsQuiet IsAnswerFull f.mid (inl told) → HasServed did.Served
            answered (inr full) = absurd (room_for f.request h.goes.lettered_by f.mid near_lettered lost.0 f.came.2 (subst (IsAnswerFull f.mid) so.1 full))
            answered (inl x) = record {
              says = refl;
              out = record {
                owners = so.0 ∙ out_lettered.owners;
                coming = ap (λ (z : PrimaryState). z.coming) f.done.rest ∙ out_lettered.coming;
                answers = x.0;
                waiting = ap (λ (z : PrimaryState). z.waiting) f.done.rest ∙ out_lettered.waiting;
              };
              letters = x.1.2.2.primary ∙ f.came.1.primary ∙ near_lettered.letters;
              workers = x.1.2.1.workers ∙ lost.1 ∙ near_lettered.workers;
              request = f.request;
              lost = subst (λ (z : Buffer Asked × Buffer Asked). HasLost z.0 f.request z.1) (λ i. (near_lettered.requests i, sym x.1.2.1.primary i)) lost.0;
              answer = x.1.0;
              there = subst (IsServedThere k) (sym (named x.1.0 x.1.1)) so.2;
              told = told;
              tells = named x.1.0 x.1.1;
              mine = so.1;
              drawn = f.done.drawn;
              gained = subst (λ (z : List (Buffer (Answer N)) × ℕ). HappensAt HasGained z.0 z.1 x.1.0 t.rings.answers) (λ i. ((f.came.2 ∙ near_lettered.answers) i, so.1 i)) x.1.2.0;
              stock = h.goes.lettered.stock;
              served = in_room;
            }

        by : IsServedInRoom k.is_visible s.store t.store h.goes.lettered.stock t.primary.stock f.request.ask told ⊎ primary.IsUnnotedHere s.store t.store h.goes.lettered.stock t.primary.stock f.request told → HasServed did.Served
        by (inl x) = served x
        by (inr x) = absurd (x.cause.out (at_primary x.file))
    front_done (did.Redirected file) f = absurd (clash (sym (at_primary file) ∙ f.done.has))
      where
        clash : owner.Primary ≡ owner.Worker f.done.worker → ⊥
        clash e = cc
    front_done (did.Waiting file) f = absurd (f.done.cause.out (at_primary file))
    front_done did.Settled f = absurd f.done
    front_done did.Noted f = absurd f.done
    front_done did.Idle f = absurd f.done
    front_done (did.Lack what) f = absurd f.done

    rested : (o : PrimaryTurn) → o ≡ did.Idle → t.primary ≡ h.goes.lettered → AreNear h.goes.lettered_by t.rings → (s.rings.requests.primary.items ≡ []) ⊎ (client_count k ≡ 0) → HasRested o
    rested o says same near empty = record { says = says; out = subst HasNothingOut (sym same) out_lettered; rings = near_then s.rings h.goes.lettered_by t.rings near_lettered near; empty = empty }

    pub primary_did : HasRested o ⊎ HasServed o
    primary_did = by (subst
        (λ (m : Option PrimaryTurn). primary.IsThen m o h.goes.lettered t.primary h.goes.lettered_by t.rings (primary.IsWorkDone Answers IsQuiet IsAnswerFull k.is_visible s.store t.store s.seen t.seen (client_count k) Gets HasNoRequest h.goes.lettered t.primary h.goes.lettered_by t.rings o))
        no_letter.1 h.goes.work)
      where
        none_of : (n : ℕ) → n ≡ 0 → client_count k ≤ n → client_count k ≡ 0
        none_of n none low = omega (arith, none, low)

        by : primary.IsWorkDone Answers IsQuiet IsAnswerFull k.is_visible s.store t.store s.seen t.seen (client_count k) Gets HasNoRequest h.goes.lettered t.primary h.goes.lettered_by t.rings o → HasRested o ⊎ HasServed o
        by (inl x) = nothing_at h.goes.lettered.waiting x.taken.taken.place x.taken.one out_lettered.waiting x.taken.taken.oldest.at
        by (inr (inl x)) = inr (front_done o x)
        by (inr (inr (inl x))) = inl (rested o x.says x.rest (near_quiet h.goes.lettered_by t.rings x.nothing) (inl ((λ i. (sym near_lettered.requests i).items) ∙ none_got h.goes.lettered_by h.goes.lettered_by.server no_ring x.empty)))
        by (inr (inr (inr x))) = inl (rested o x.says x.rest (near_same h.goes.lettered_by t.rings x.nothing) (inr (full x.many)))
          where
            full : (client_count k ≤ length h.goes.lettered.answers) ⊎ ((client_count k ≤ length h.goes.lettered.waiting) × AllWait h.goes.lettered.stock.home.owners h.goes.lettered.waiting) → client_count k ≡ 0
            full (inl low) = none_of (length h.goes.lettered.answers) (ap length out_lettered.answers) low
            full (inr both) = none_of (length h.goes.lettered.waiting) (ap length out_lettered.waiting) both.0

-- ---- the state behind the primary's turn

module _ {N : Type 0} (k : Start) (s t : GlobalState N) (w : ServesAlone k s) (rest : t ≡ record s { primary = t.primary; rings = t.rings; seen = t.seen; store = t.store }) where
  module _ (out : HasNothingOut t.primary) (near : AreNear s.rings t.rings) where
    pub rested_then : ServesAlone k t
    rested_then = subst (ServesAlone k) (sym rest) (record {
      no_worker = w.no_worker;
      none_there = w.none_there;
      all_there = w.all_there;
      few = w.few;
      numbers = w.numbers;
      ask = w.ask;
      nothing_out = out;
      rings = record {
        no_letter = (λ i. (near.letters i).items) ∙ w.rings.no_letter;
        no_ring = near.workers ∙ w.rings.no_ring;
        room = (λ i. (near.requests i).capacity) ∙ w.rings.room;
        fit = subst (λ (b : Buffer Asked). length b.items ≤ 16) (sym near.requests) w.rings.fit;
        rooms = λ client ring at. w.rings.rooms client ring (ap (λ (l : List (Buffer (Answer N))). slice_get l client) (sym near.answers) ∙ at);
        answered = λ client ring x at has. w.rings.answered client ring x (ap (λ (l : List (Buffer (Answer N))). slice_get l client) (sym near.answers) ∙ at) has;
      };
      each = ap length near.answers ∙ w.each;
      once = λ place c ring at there.
          let before = w.once place c ring at (ap (λ (l : List (Buffer (Answer N))). slice_get l place) (sym near.answers) ∙ there) in
          let same = ap (λ (b : Buffer Asked). asked_by place b.items) near.requests in
          omega (arith, before, same);
    })

    pub rested_todo : todo t ≤ todo s
    rested_todo =
        let held_same = ap (λ (x : GlobalState N). weigh (λ (c : Caller). kept_of c.errand) x.clients) rest in
        let long = ap (λ (b : Buffer Asked). length b.items) near.requests in
        let sum = ap (weigh held) near.answers in
        omega (arith, held_same, long, sum)

  module _ (o : PrimaryTurn) (d : HasServed k s t w o) where
    some_ring : (x y : Buffer (Answer N)) → Some x ≡ Some y → x ≡ y
    some_ring x y e = cc

    -- what stands in a client's ring now
    abbrev WasIn : ℕ → Buffer (Answer N) → Type 0
    WasIn place ring = ((place ≡ d.request.ask.client) × (d.gained.is ≡ ring)) ⊎ (slice_get s.rings.answers place ≡ Some ring)

    was_in : (place : ℕ) (ring : Buffer (Answer N)) → slice_get t.rings.answers place ≡ Some ring → WasIn place ring
    was_in place ring at = get_set s.rings.answers d.request.ask.client place d.gained.is ring (ap (λ (l : List (Buffer (Answer N))). slice_get l place) (sym d.gained.stands) ∙ at)

    pushed : d.gained.is.items ≡ d.gained.was.items ++ d.answer ∷ []
    pushed = ap (λ (b : Buffer (Answer N)). b.items) d.gained.so.1

    rooms_then : (client : ℕ) (ring : Buffer (Answer N)) → slice_get t.rings.answers client ≡ Some ring → ring.capacity ≡ 1
    rooms_then client ring at = ⊎_elim
        (λ (e : (client ≡ d.request.ask.client) × (d.gained.is ≡ ring)).
        ap (λ (b : Buffer (Answer N)). b.capacity) (sym e.1) ∙ ap (λ (b : Buffer (Answer N)). b.capacity) d.gained.so.1 ∙ w.rings.rooms d.request.ask.client d.gained.was d.gained.stood)
        (λ (e : slice_get s.rings.answers client ≡ Some ring). w.rings.rooms client ring e)
        (was_in client ring at)

    answered_then : (client : ℕ) (ring : Buffer (Answer N)) (x : Answer N) → slice_get t.rings.answers client ≡ Some ring → Has x ring.items → IsServedThere k x
    answered_then client ring x at has = ⊎_elim
        (λ (e : (client ≡ d.request.ask.client) × (d.gained.is ≡ ring)).
        among (has_append x d.gained.was.items (d.answer ∷ []) (subst (Has x) pushed (subst (λ (b : Buffer (Answer N)). Has x b.items) (sym e.1) has))))
        (λ (e : slice_get s.rings.answers client ≡ Some ring). w.rings.answered client ring x e has)
        (was_in client ring at)
      where
        among : Has x d.gained.was.items ⊎ Has x (d.answer ∷ []) → IsServedThere k x
        among (inl old) = w.rings.answered d.request.ask.client d.gained.was x d.gained.stood old
        among (inr (inl new)) = subst (IsServedThere k) (sym new) d.there
        among (inr (inr none)) = absurd none

    once_then : (place : ℕ) (c : Caller) (ring : Buffer (Answer N)) → slice_get s.clients place ≡ Some c → slice_get t.rings.answers place ≡ Some ring → asked_by place t.rings.requests.primary.items + length ring.items ≡ gone_of c.errand
    once_then place c ring at there = by (eqb place d.request.ask.client) refl
      where
        lost : asked_by place s.rings.requests.primary.items ≡ one (eqb place d.request.ask.client) + asked_by place t.rings.requests.primary.items
        lost = ap (asked_by place) d.lost.0

        other : eqb place d.request.ask.client ≡ false → place ≡ d.request.ask.client → ⊥
        other e same = true≢false (sym (ap (λ (n : ℕ). eqb n d.request.ask.client) same ∙ itself d.request.ask.client) ∙ e)

        by : (b : Bool) → eqb place d.request.ask.client ≡ b → asked_by place t.rings.requests.primary.items + length ring.items ≡ gone_of c.errand
        by true e =
            let same = eqb-true place d.request.ask.client e in
            let is : d.gained.is ≡ ring = some_ring d.gained.is ring
            (sym (ap (λ (l : List (Buffer (Answer N))). slice_get l d.request.ask.client) d.gained.stands ∙ set_there s.rings.answers d.request.ask.client d.gained.was d.gained.is d.gained.stood) ∙ ap (slice_get t.rings.answers) (sym same) ∙ there) in
            let before = w.once place c d.gained.was at (ap (slice_get s.rings.answers) same ∙ d.gained.stood) in
            let mine = ap one e in
            let long = ap held (sym is) ∙ ap length pushed ∙ length_push d.gained.was.items d.answer in
            let gone = lost in
            omega (arith, before, mine, long, gone)
        by false e = ⊎_elim
            (λ (x : (place ≡ d.request.ask.client) × (d.gained.is ≡ ring)). absurd (other e x.0))
            (λ (old : slice_get s.rings.answers place ≡ Some ring).
            let before = w.once place c ring at old in
            let none = ap one e in
            let gone = lost in
            omega (arith, before, none, gone))
            (was_in place ring there)

    pub served_then : ServesAlone k t
    served_then = subst (ServesAlone k) (sym rest) (record {
      no_worker = w.no_worker;
      none_there = w.none_there;
      all_there = w.all_there;
      few = w.few;
      numbers = w.numbers;
      ask = w.ask;
      nothing_out = d.out;
      rings = record {
        no_letter = (λ i. (d.letters i).items) ∙ w.rings.no_letter;
        no_ring = d.workers ∙ w.rings.no_ring;
        room = d.lost.1 ∙ w.rings.room;
        fit = let fit = w.rings.fit in let less = ap length d.lost.0 in omega (arith, fit, less);
        rooms = rooms_then;
        answered = answered_then;
      };
      each = ap length d.gained.stands ∙ length_at s.rings.answers d.request.ask.client d.gained.is ∙ w.each;
      once = once_then;
    })

    pub served_todo : todo t + 1 ≤ todo s
    served_todo =
        let held_same = ap (λ (x : GlobalState N). weigh (λ (c : Caller). kept_of c.errand) x.clients) rest in
        let less = ap length d.lost.0 in
        let sum = ap (weigh held) d.gained.stands in
        let more = weigh_set held s.rings.answers d.request.ask.client d.gained.was d.gained.is d.gained.stood in
        let long = ap length pushed ∙ length_push d.gained.was.items d.answer in
        omega (arith, held_same, less, sum, more, long)

  module _ (o : PrimaryTurn) (h : IsPrimaryTurn k s.store t.store s.seen t.seen s.primary t.primary s.rings t.rings o) where
    pub primary_then : ServesAlone k t
    primary_then = ⊎_elim (λ (r : HasRested k s t w o). rested_then r.out r.rings) (λ (d : HasServed k s t w o). served_then o d) (primary_did k s t w o h)

    -- what it does brings a request nearer to its answer
    pub primary_nearer : todo t + one (primary_moved o) ≤ todo s
    primary_nearer = ⊎_elim
        (λ (r : HasRested k s t w o).
        let low = rested_todo r.out r.rings in
        let none = ap (λ (x : PrimaryTurn). one (primary_moved x)) r.says in
        omega (arith, low, none))
        (λ (d : HasServed k s t w o).
        let low = served_todo o d in
        let some = ap (λ (x : PrimaryTurn). one (primary_moved x)) d.says in
        omega (arith, low, some))
        (primary_did k s t w o h)

    -- where it does nothing, it has no request
    pub primary_rests : primary_moved o ≡ false → AreNear s.rings t.rings × ((s.rings.requests.primary.items ≡ []) ⊎ (client_count k ≡ 0))
    primary_rests none = ⊎_elim
        (λ (r : HasRested k s t w o). (r.rings, r.empty))
        (λ (d : HasServed k s t w o). absurd (true≢false (sym (ap primary_moved d.says) ∙ none)))
        (primary_did k s t w o h)
