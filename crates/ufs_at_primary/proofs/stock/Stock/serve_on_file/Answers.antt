use Rattle.std.proofs.Common.{◌≡◌, None, sym, subst, ◌∙◌, ◌+◌, arith}
use Rattle.std.specs.Prelude.{IsSome}
use Rattle.ufs_baton.specs.Baton.{IsToldSince}
use Rattle.ufs_home.specs.Places.{file_here}
use Rattle.ufs_msg.specs.Requests.{Asked}
use Rattle.ufs_at_primary.specs.Kinds.{IsOnFile}
use Rattle.ufs_at_primary.specs.Served.{IsAnsweredHere}
use Rattle.ufs_at_primary.specs.Stock.{StockState}
use Rattle.ufs_at_primary.proofs.AtHome.{still_tidied}
use Rattle.ufs_at_primary.proofs.Outcomes.{in_room}
use Rattle.ufs_at_primary.proofs.Rooms.{tidied_more}
use Rattle.ufs_at_primary.proofs.Trials.{none_is}
use Rattle.ufs_told.specs.Numbers.{most_raised}
use Rattle.ufs_at_primary.proofs.Raised.{on_file_not_all, raises_still, raises_then, served_raises}
use Rattle.ufs_at_primary.proofs.stock.Stock.serve_on_file.Goals as goal

pub send_on-requires-clause-away : goal.send_on-requires-clause-away
send_on-requires-clause-away g c = subst (λ (s : StockState). file_here s.home.places c.args.file ≡ None) c.self.view_is (none_is _ (sym c.has.ensures ∙ c.if-not-has.true))

pub returns-then-not-has-clause-tried : goal.returns-then-not-has-clause-tried
returns-then-not-has-clause-tried g c = c.send_on.ensures.tried g.N.Naming.start.is_visible (g.T.Turns.tells c.args.door.now)

pub measure-request-requires : goal.measure-request-requires
measure-request-requires g c = record { here = subst (λ (s : StockState). IsSome (file_here s.home.places c.args.file)) c.self.view_is (sym c.has.ensures ∙ c.if-not-has.false) }

pub serve_at_hand-requires-clause-kind : goal.serve_at_hand-requires-clause-kind
serve_at_hand-requires-clause-kind g c = subst (λ (q : Asked). IsOnFile q.ask c.args.file) (sym c.measure-request.ensures.request) c.requires.kind

pub serve_at_hand-requires-clause-here : goal.serve_at_hand-requires-clause-here
serve_at_hand-requires-clause-here g c =
    let here = subst (λ (s : StockState). IsSome (file_here s.home.places c.args.file)) (c.self.view_is ∙ sym c.measure-request.ensures.same) (sym c.has.ensures ∙ c.if-not-has.false) in
    still_tidied 0 g.N.Naming.start.is_visible (g.T.Turns.tells c.args.door.now) (g.T.Turns.tells c.make_space.new.door) c.measure-request.new.self c.make_space.new.self c.make_space.ensures.made c.args.file here

pub returns-clause-tried : goal.returns-clause-tried
returns-clause-tried g c =
    let visible = g.N.Naming.start.is_visible in
    let before = g.T.Turns.tells c.args.door.now in
    let mid = g.T.Turns.tells c.make_space.new.door in
    let after = g.T.Turns.tells c.serve_at_hand.new.door in
    let m = c.make_space.new.self in
    let t = c.serve_at_hand.new.self in
    let a = c.serve_at_hand.result in
    in_room visible before mid after c.args.self.now m t c.args.request a (tidied_more visible before mid c.measure-request.new.self c.args.self.now m c.measure-request.ensures.same c.make_space.ensures.made)
    (λ commits.
    let none = c.make_space.ensures.spared (c.measure-request.ensures.none commits) in
    (none.0 ∙ c.measure-request.ensures.same, none.1))
    (subst (λ (q : Asked). IsAnsweredHere visible mid after m t q a) c.measure-request.ensures.request c.serve_at_hand.ensures.answered)

pub returns-clause-drawn : goal.returns-clause-drawn
returns-clause-drawn g c = subst (λ (q : Asked). IsToldSince q.hand.seen c.serve_at_hand.result) c.measure-request.ensures.request c.serve_at_hand.ensures.drawn

pub returns-clause-telling : goal.returns-clause-telling
returns-clause-telling g c = (let made = c.make_space.ensures.made in c.serve_at_hand.ensures.telling ∙ made.telling)

pub returns-then-not-has-clause-raised : goal.returns-then-not-has-clause-raised
returns-then-not-has-clause-raised g c = raises_still (g.T.Turns.tells c.args.door.now) (most_raised g.N.Naming.start.geometry)

pub returns-clause-raised : goal.returns-clause-raised
returns-clause-raised g c =
    let visible = g.N.Naming.start.is_visible in
    let had = g.T.Turns.tells c.args.door.now in
    let mid = g.T.Turns.tells c.make_space.new.door in
    let has = g.T.Turns.tells c.serve_at_hand.new.door in
    let m = c.make_space.new.self in
    let t = c.serve_at_hand.new.self in
    let ask = c.args.request.ask in
    let made = c.make_space.ensures.made in
    let kind = c.requires.kind in
    let s = subst (λ (q : Asked). IsAnsweredHere visible mid has m t q c.serve_at_hand.result) c.measure-request.ensures.request c.serve_at_hand.ensures.answered in
    raises_then had mid has (g.N.Naming.start.geometry.inodes + 2) 2 (most_raised g.N.Naming.start.geometry) (omega arith) made.telling c.make_space.ensures.raised (served_raises visible mid has m t ask s.0 (on_file_not_all ask.op kind.kind) s.2)
