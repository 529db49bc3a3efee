use Rattle.std.proofs.Common.{◌≡◌, ◌<◌, ℕ, true, false, ap, arith, refl, sym, subst, ◌∙◌, ◌≤◌, ◌+◌}
use Rattle.std.specs.Prelude.{IfOk, IsSome}
use Rattle.std.specs.FinMap as fin
use Rattle.ufs_held_names.specs.Asked.{IsNeeded}
use Rattle.ufs_joint.specs.Cells.{NamesCell}
use Rattle.ufs_model.specs.declared.data.Ask.{Ask}
use Rattle.ufs_msg.specs.Requests.{Asked}
use Rattle.ufs_at_primary.specs.Kinds.{IsByNames}
use Rattle.ufs_at_primary.specs.Room.{IsRoomMade}
use Rattle.ufs_at_primary.specs.Served.{IsAway, IsStill, Lacked, OfNames}
use Rattle.ufs_at_primary.specs.Stock.{AreHere, StockState, stock_of}
use Rattle.ufs_at_primary.specs.declared.tried.Tried.TheVariants as tried
use Rattle.ufs_at_primary.proofs.AtHome.{still_tidied}
use Rattle.ufs_at_primary.proofs.Excuses.{opened_named}
use Rattle.ufs_at_primary.proofs.Outcomes.{answered_as, answered_from, as_found, in_room}
use Rattle.ufs_at_primary.proofs.Rooms.{below_still, needed_here, needed_still, next_still}
use Rattle.ufs_at_primary.proofs.Trials.{is_out, since_before}
use Rattle.ufs_told.specs.Numbers.{most_raised}
use Rattle.ufs_at_primary.proofs.Raised.{calm_not_all, raises_rests, raises_still, raises_then, served_raises}
use Rattle.ufs_at_primary.proofs.stock.Stock.serve_by_names.Goals as goal

pub see_request-request-requires : goal.see_request-request-requires
see_request-request-requires g c = record { pool = (c.self.inside.pool, c.self.invariant.hand) }

pub ask_needed-request-requires : goal.ask_needed-request-requires
ask_needed-request-requires g c = record { kind = subst IsByNames (sym (let still = c.see_request-request.ensures.still in still.ask)) c.requires.kind }

pub lacking-requires-clause-pool : goal.lacking-requires-clause-pool
lacking-requires-clause-pool g c = (c.self.inside.pool, c.see_request-request.ensures.pool c.self.inside.pool c.self.invariant.hand)

pub lacking-requires-clause-opened : goal.lacking-requires-clause-opened
lacking-requires-clause-opened g c = opened_named c.ask_needed-request.result.0.ask (subst (λ (r : Asked). IsByNames r.ask) (sym c.ask_needed-request.ensures.same) (subst IsByNames (sym (let still = c.see_request-request.ensures.still in still.ask)) c.requires.kind))

pub excuse-requires : goal.excuse-requires
excuse-requires g c = record { opened = opened_named c.ask_needed-request.result.0.ask (subst (λ (r : Asked). IsByNames r.ask) (sym c.ask_needed-request.ensures.same) (subst IsByNames (sym (let still = c.see_request-request.ensures.still in still.ask)) c.requires.kind)) }

pub invariant_of-self : goal.invariant_of-self
invariant_of-self g c =
    let h = c.self.invariant in
    let f = c.self.inside in
    let e = c.see_request-request.ensures in
    record { formed = h.formed; its = h.its; numbers = h.numbers; hand = c.lacking.ensures.pool f.pool (e.pool f.pool h.hand); few = h.few; here = subst (λ (n : NamesCell). AreHere n f.home) (sym e.names) h.here }

pub returns-in-Err-clause-tried : goal.returns-in-Err-clause-tried
returns-in-Err-clause-tried g c =
    let f = c.self.inside in
    let e = c.see_request-request in
    let q = c.ask_needed-request in
    let visible = g.N.Naming.start.is_visible in
    let before = g.T.Turns.tells c.args.door.now in
    let after = g.T.Turns.tells c.lacking.new.door in
    let t = stock_of e.new.names f.home f.pool in
    as_found visible before after c.args.self.now t c.args.request c.lacking.result
    (answered_as visible before after c.args.self.now t c.args.request q.result.0 c.lacking.result (subst (IsStill c.args.request) (sym q.ensures.same) e.ensures.still)
    (answered_from visible before after t c.args.self.now t q.result.0 c.lacking.result ((λ i. stock_of (e.ensures.names i) f.home f.pool) ∙ c.self.view_is) (c.lacking.ensures.answered visible e.new.names f.pool)))

pub invariant_of-self-in-Some : goal.invariant_of-self-in-Some
invariant_of-self-in-Some g c =
    let h = c.self.invariant in
    let f = c.self.inside in
    let e = c.see_request-request.ensures in
    record { formed = h.formed; its = h.its; numbers = h.numbers; hand = e.pool f.pool h.hand; few = h.few; here = subst (λ (n : NamesCell). AreHere n f.home) (sym e.names) h.here }

pub returns-in-Some-clause-tried : goal.returns-in-Some-clause-tried
returns-in-Some-clause-tried g c =
    let f = c.self.inside in
    let e = c.see_request-request in
    let q = c.ask_needed-request in
    let was = stock_of f.names f.home f.pool in
    let still = e.ensures.still in
    let away = c.in-Some.ensures.away in
    let found = subst (λ x. IfOk x (IsNeeded e.new.names.value e.result.ask)) c.in-Ok.is q.ensures.needed in
    let its = subst (IsNeeded f.names.value c.args.request.ask) away.0 (subst (λ (p : NamesCell × Ask). IsNeeded p.0.value p.1 c.in-Ok.needed) (λ i. (e.ensures.names i, still.ask i)) found) in (
      subst (IsStill c.args.request) (sym q.ensures.same) still,
      subst (λ (s : StockState). IsAway s c.args.request.ask c.in-Some.file) c.self.view_is (record { out = is_out was c.in-Some.file c.self.invariant.here (e.ensures.needed c.in-Some.file its) away.1; wants = OfNames c.requires.kind its away.1 }),
      (λ i. stock_of (e.ensures.names i) f.home f.pool) ∙ c.self.view_is,
      refl,
    )

pub serve_touching-requires-clause-needed : goal.serve_touching-requires-clause-needed
serve_touching-requires-clause-needed g c =
    let e = c.see_request-request in
    let q = c.ask_needed-request in
    let room = c.make_room.ensures.made in
    let found = subst (λ x. IfOk x (IsNeeded e.new.names.value e.result.ask)) c.in-Ok.is q.ensures.needed in
    subst (λ (r : Asked). IsNeeded c.make_room.new.self.names.value r.ask c.in-Ok.needed) (sym q.ensures.same)
    (needed_still c.notes_are_beside.ensures g.N.Naming.start.is_visible e.new.names c.make_room.new.self.names e.result.ask c.in-Ok.needed room.names found)

pub serve_touching-requires-clause-here : goal.serve_touching-requires-clause-here
serve_touching-requires-clause-here g c =
    let s = stock_of c.see_request-request.new.names c.self.inside.home c.self.inside.pool in
    needed_here c.in-Ok.needed c.self.inside.home.places c.make_room.new.self.home.places
    (still_tidied 1 g.N.Naming.start.is_visible (g.T.Turns.tells c.args.door.now) (g.T.Turns.tells c.make_room.new.door) s c.make_room.new.self c.make_room.ensures.made) c.in_default.ensures.here

pub serve_touching-requires-clause-below : goal.serve_touching-requires-clause-below
serve_touching-requires-clause-below g c =
    let e = c.see_request-request in
    let room = c.make_room.ensures.made in
    let below = subst (λ (n : NamesCell). (file : ℕ) → IsSome (fin.get n.value.held file) → file < n.value.next) (sym e.ensures.names) e.ensures.below in
    below_still g.N.Naming.start.is_visible e.new.names c.make_room.new.self.names room.names below

pub serve_touching-requires-clause-low : goal.serve_touching-requires-clause-low
serve_touching-requires-clause-low g c =
    let e = c.see_request-request in
    let room = c.make_room.ensures.made in
    let same = next_still g.N.Naming.start.is_visible e.new.names c.make_room.new.self.names room.names ∙ ap (λ (n : NamesCell). n.value.next) e.ensures.names in
    let few = e.ensures.few in
    let numbers = c.self.invariant.numbers in
    omega (arith, same, few, numbers)

pub returns-in-Err-make_room-clause-tried : goal.returns-in-Err-make_room-clause-tried
returns-in-Err-make_room-clause-tried g c =
    let f = c.self.inside in
    let e = c.see_request-request in
    let q = c.ask_needed-request in
    let m = c.make_room.new.self in
    let t = c.excuse.new.self in
    let x = c.excuse.ensures.excused in
    let visible = g.N.Naming.start.is_visible in
    let before = g.T.Turns.tells c.args.door.now in
    let mid = g.T.Turns.tells c.make_room.new.door in
    let after = g.T.Turns.tells c.excuse.new.door in
    let s = stock_of e.new.names f.home f.pool in
    let room = subst (λ (y : StockState). IsRoomMade visible before mid y m) ((λ i. stock_of (e.ensures.names i) f.home f.pool) ∙ c.self.view_is) c.make_room.ensures.made in
    in_room visible before mid after c.args.self.now m t c.args.request c.excuse.result room (λ commits. absurd (let k = c.requires.kind in let clash : true ≡ false = sym commits ∙ k.no_commit in cc))
    (answered_as visible mid after m t c.args.request q.result.0 c.excuse.result (subst (IsStill c.args.request) (sym q.ensures.same) e.ensures.still) (x.0, x.1, Lacked (record { excused = x.2; rest = c.excuse.ensures.rest })))

pub returns-clause-tried : goal.returns-clause-tried
returns-clause-tried g c =
    let f = c.self.inside in
    let e = c.see_request-request in
    let q = c.ask_needed-request in
    let x = c.serve_touching in
    let m = c.make_room.new.self in
    let visible = g.N.Naming.start.is_visible in
    let before = g.T.Turns.tells c.args.door.now in
    let mid = g.T.Turns.tells c.make_room.new.door in
    let after = g.T.Turns.tells x.new.door in
    let room = subst (λ (y : StockState). IsRoomMade visible before mid y m) ((λ i. stock_of (e.ensures.names i) f.home f.pool) ∙ c.self.view_is) c.make_room.ensures.made in
    in_room visible before mid after c.args.self.now m x.new.self c.args.request x.result room (λ commits. absurd (let k = c.requires.kind in let clash : true ≡ false = sym commits ∙ k.no_commit in cc))
    (answered_as visible mid after m x.new.self c.args.request q.result.0 x.result (subst (IsStill c.args.request) (sym q.ensures.same) e.ensures.still) x.ensures.answered)

pub returns-in-Err-make_room-clause-telling : goal.returns-in-Err-make_room-clause-telling
returns-in-Err-make_room-clause-telling g c = (let made = c.make_room.ensures.made in c.excuse.ensures.telling ∙ made.telling)

pub returns-clause-telling : goal.returns-clause-telling
returns-clause-telling g c = (let made = c.make_room.ensures.made in c.serve_touching.ensures.telling ∙ made.telling)

-- what the request's hand has seen once it was seen by the names
seen_then : (s q : Asked) (since : ℕ) → q ≡ s → since ≤ s.hand.seen → since ≤ q.hand.seen
seen_then s q since same less = subst (λ (r : Asked). since ≤ r.hand.seen) (sym same) less

pub returns-in-Err-clause-drawn : goal.returns-in-Err-clause-drawn
returns-in-Err-clause-drawn g c =
    let e = c.see_request-request in
    let q = c.ask_needed-request in
    since_before (tried.Answered c.lacking.result) c.args.request.hand.seen q.result.0.hand.seen (seen_then e.result q.result.0 c.args.request.hand.seen q.ensures.same e.ensures.later) c.lacking.ensures.drawn

pub returns-in-Some-clause-drawn : goal.returns-in-Some-clause-drawn
returns-in-Some-clause-drawn g c =
    let e = c.see_request-request in
    let q = c.ask_needed-request in
    seen_then e.result q.result.0 c.args.request.hand.seen q.ensures.same e.ensures.later

pub returns-clause-drawn : goal.returns-clause-drawn
returns-clause-drawn g c =
    let e = c.see_request-request in
    let q = c.ask_needed-request in
    since_before (tried.Answered c.serve_touching.result) c.args.request.hand.seen q.result.0.hand.seen (seen_then e.result q.result.0 c.args.request.hand.seen q.ensures.same e.ensures.later) c.serve_touching.ensures.drawn

pub returns-in-Err-make_room-clause-drawn : goal.returns-in-Err-make_room-clause-drawn
returns-in-Err-make_room-clause-drawn g c =
    let e = c.see_request-request in
    let q = c.ask_needed-request in
    since_before (tried.Answered c.excuse.result) c.args.request.hand.seen q.result.0.hand.seen (seen_then e.result q.result.0 c.args.request.hand.seen q.ensures.same e.ensures.later) c.excuse.ensures.drawn

pub returns-in-Err-clause-raised : goal.returns-in-Err-clause-raised
returns-in-Err-clause-raised g c = raises_rests (g.T.Turns.tells c.args.door.now) (g.T.Turns.tells c.lacking.new.door) (most_raised g.N.Naming.start.geometry) c.lacking.ensures.rests

pub returns-in-Some-clause-raised : goal.returns-in-Some-clause-raised
returns-in-Some-clause-raised g c = raises_still (g.T.Turns.tells c.args.door.now) (most_raised g.N.Naming.start.geometry)

pub returns-in-Err-make_room-clause-raised : goal.returns-in-Err-make_room-clause-raised
returns-in-Err-make_room-clause-raised g c =
    let mid = g.T.Turns.tells c.make_room.new.door in
    let has = g.T.Turns.tells c.excuse.new.door in
    let made = c.make_room.ensures.made in
    let x = c.excuse.ensures.excused in
    let excused = x.2 in
    raises_then (g.T.Turns.tells c.args.door.now) mid has (g.N.Naming.start.geometry.inodes + 3) 0 (most_raised g.N.Naming.start.geometry) (omega arith) made.telling c.make_room.ensures.raised (raises_rests mid has 0 excused.rests)

pub returns-clause-raised : goal.returns-clause-raised
returns-clause-raised g c =
    let e = c.see_request-request in
    let q = c.ask_needed-request in
    let x = c.serve_touching in
    let m = c.make_room.new.self in
    let visible = g.N.Naming.start.is_visible in
    let had = g.T.Turns.tells c.args.door.now in
    let mid = g.T.Turns.tells c.make_room.new.door in
    let has = g.T.Turns.tells x.new.door in
    let ask = c.args.request.ask in
    let made = c.make_room.ensures.made in
    let kind = c.requires.kind in
    let s = answered_as visible mid has m x.new.self c.args.request q.result.0 x.result (subst (IsStill c.args.request) (sym q.ensures.same) e.ensures.still) x.ensures.answered in
    raises_then had mid has (g.N.Naming.start.geometry.inodes + 3) 2 (most_raised g.N.Naming.start.geometry) (omega arith) made.telling c.make_room.ensures.raised (served_raises visible mid has m x.new.self ask s.0 (calm_not_all ask.op kind.no_commit) s.2)
