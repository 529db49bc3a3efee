use Rattle.std.proofs.Common.{inl, inr, refl, sym, true≢false, ◌∙◌}
use Rattle.ufs_at_primary.specs.Stock.{stock_of}
use Rattle.ufs_at_primary.proofs.Births.{both_kept, obeyed, sendable, unready}
use Rattle.ufs_at_primary.proofs.NamesTold.{free_still}
use Rattle.ufs_at_primary.proofs.Trials.{none_is}
use Rattle.ufs_held.proofs.Stopping.{stops_still}
use Rattle.ufs_turns.proofs.Runs.{runs_still}
use Rattle.ufs_at_primary.proofs.ordering.order_file.Goals as goal

pub order-requires-clause-sendable : goal.order-requires-clause-sendable
order-requires-clause-sendable g c = λ at to nobody. absurd (c.is_to_go.ensures.no c.if-not-is_to_go.true at to nobody)

pub returns-then-not-is_to_go-clause-ordered : goal.returns-then-not-is_to_go-clause-ordered
returns-then-not-is_to_go-clause-ordered g c = λ pool. inl (record {
  ready = stock_of c.args.names.now c.args.home.now pool;
  readied = inl refl;
  answer = c.order.ensures.answer;
  moved = c.order.ensures.moved;
  lack = c.order.ensures.lack;
  rest = refl;
})

pub returns-then-not-is_to_go-clause-free : goal.returns-then-not-is_to_go-clause-free
returns-then-not-is_to_go-clause-free g c = free_still (g.T.Turns.tells c.args.door.now)

pub returns-then-not-has-clause-ordered : goal.returns-then-not-has-clause-ordered
returns-then-not-has-clause-ordered g c = λ pool. inr (record { at_primary = c.is_to_go.ensures.here c.if-not-is_to_go.false; none = none_is _ (sym c.has.ensures ∙ c.if-not-has.true); nothing = refl; rest = refl })

pub returns-then-not-has-clause-free : goal.returns-then-not-has-clause-free
returns-then-not-has-clause-free g c = free_still (g.T.Turns.tells c.args.door.now)

pub make_ready-requires-clause-here : goal.make_ready-requires-clause-here
make_ready-requires-clause-here g c = sym c.has.ensures ∙ c.if-not-has.false

pub returns-in-Err-clause-ordered : goal.returns-in-Err-clause-ordered
returns-in-Err-clause-ordered g c = λ pool.
    unready g.N.Naming.start.is_visible (stock_of c.args.names.now c.args.home.now pool) (stock_of c.make_ready.new.names c.make_ready.new.home pool) c.args.file c.args.to c.in-Err.ordered
    c.in-Err.ensures.unready (both_kept c.args.names.now c.make_ready.new.names c.args.home.now c.make_ready.new.home pool c.in-Err.ensures.kept.0 c.in-Err.ensures.kept.1) (c.is_to_go.ensures.yes c.if-not-is_to_go.false)

pub order-requires-2-clause-sendable : goal.order-requires-2-clause-sendable
order-requires-2-clause-sendable g c = λ at to nobody.
    let pool = c.requires.pool.0 in
    sendable g.N.Naming.start.is_visible (stock_of c.args.names.now c.args.home.now pool) (stock_of c.make_ready.new.names c.make_ready.new.home pool) c.args.file (c.in_default.ensures.ready pool)

pub returns-clause-ordered : goal.returns-clause-ordered
returns-clause-ordered g c = λ pool. inl
    (obeyed g.N.Naming.start.is_visible (stock_of c.args.names.now c.args.home.now pool) (stock_of c.make_ready.new.names c.make_ready.new.home pool) (stock_of c.make_ready.new.names c.order-2.new.self pool) c.args.file c.args.to c.order-2.result
    (c.in_default.ensures.ready pool) c.order-2.ensures.answer c.order-2.ensures.moved c.order-2.ensures.lack refl)

pub returns-then-not-is_to_go-clause-halts : goal.returns-then-not-is_to_go-clause-halts
returns-then-not-is_to_go-clause-halts g c = stops_still (g.T.Turns.tells c.args.door.now)

pub returns-then-not-has-clause-halts : goal.returns-then-not-has-clause-halts
returns-then-not-has-clause-halts g c = stops_still (g.T.Turns.tells c.args.door.now)

pub returns-in-Err-clause-halts : goal.returns-in-Err-clause-halts
returns-in-Err-clause-halts g c = c.in-Err.ensures.halts

pub returns-clause-halts : goal.returns-clause-halts
returns-clause-halts g c = c.in_default.ensures.halts

pub returns-then-not-is_to_go-clause-ran : goal.returns-then-not-is_to_go-clause-ran
returns-then-not-is_to_go-clause-ran g c = runs_still (g.T.Turns.tells c.args.door.now) 1 1

pub returns-then-not-has-clause-ran : goal.returns-then-not-has-clause-ran
returns-then-not-has-clause-ran g c = runs_still (g.T.Turns.tells c.args.door.now) 1 1

pub returns-in-Err-clause-ran : goal.returns-in-Err-clause-ran
returns-in-Err-clause-ran g c = c.in-Err.ensures.ran

pub returns-clause-ran : goal.returns-clause-ran
returns-clause-ran g c = c.in_default.ensures.ran

-- none that goes from here is called to the primary

pub returns-in-Err-clause-called : goal.returns-in-Err-clause-called
returns-in-Err-clause-called g c = λ none. absurd (true≢false (sym c.if-not-is_to_go.false ∙ c.is_to_go.ensures.called none))

pub returns-clause-called : goal.returns-clause-called
returns-clause-called g c = λ none. absurd (true≢false (sym c.if-not-is_to_go.false ∙ c.is_to_go.ensures.called none))
