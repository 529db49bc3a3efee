use Rattle.std.proofs.Common.{◌≤◌, List, arith, inl, inr, length, refl, subst}
use Rattle.std.specs.VecDeque.{deque_capacity, deque_len}
use Rattle.ufs_msg.specs.There.{client_count}
use Rattle.ufs_at_primary.specs.OfServing.{all_said}
use Rattle.ufs_primary.specs.Waiting.{Waits}
use Rattle.ufs_primary.proofs.Doing.{of_front, of_full, of_none, of_oldest}
use Rattle.ufs_primary.proofs.Rooms.{full_of_answers}
use Rattle.ufs_told.specs.Numbers.{most_raised}
use Rattle.ufs_at_primary.proofs.Raised.{raises_still}
use Rattle.ufs_primary.proofs.answering.serve_next.Goals as goal

pub returns-in-Some-clause-done : goal.returns-in-Some-clause-done
returns-in-Some-clause-done g c = λ coming. inl (of_oldest g.Q.ServerPost.answers g.Q.ServerPost.same g.Q.ServerPost.answers_full g.N.Naming.start.is_visible (g.T.Turns.tells c.args.door.now) (g.T.Turns.tells c.do_request.new.door) c.args.baton.now c.do_request.new.baton
    c.args.stock.now c.take_waiting.new.stock c.do_request.new.stock coming (all_said c.args.answers.now.items) (all_said c.do_request.new.answers.items) c.args.waiting.now.items c.take_waiting.new.waiting.items c.do_request.new.waiting.items
    c.in-Some.request c.args.post.now c.do_request.new.post c.do_request.result c.in-Some.ensures.taken (c.do_request.ensures.done coming))

pub returns-in_default-take_ask-clause-done : goal.returns-in_default-take_ask-clause-done
returns-in_default-take_ask-clause-done g c = λ coming.
    let none = c.in_default.ensures.taken in
    let empty = c.in_default-take_ask.ensures.taken in
    inr (inr (inl (of_none g.Q.ServerPost.answers g.Q.ServerPost.same g.Q.ServerPost.answers_full g.N.Naming.start.is_visible (g.T.Turns.tells c.args.door.now) (g.T.Turns.tells c.args.door.now) c.args.baton.now c.args.baton.now (client_count g.N.Naming.start) g.Q.ServerPost.gets_ask g.Q.ServerPost.asks_empty
    c.args.stock.now c.take_waiting.new.stock coming (all_said c.args.answers.now.items) c.args.waiting.now.items c.take_waiting.new.waiting.items
    c.args.post.now c.take_ask.new.self none.0 none.1 none.2 empty.0 empty.1)))

pub returns-clause-done : goal.returns-clause-done
returns-clause-done g c = λ coming.
    let none = c.in_default.ensures.taken in
    inr (inl (of_front g.Q.ServerPost.answers g.Q.ServerPost.same g.Q.ServerPost.answers_full g.N.Naming.start.is_visible (g.T.Turns.tells c.args.door.now) (g.T.Turns.tells c.do_request-2.new.door) c.args.baton.now c.do_request-2.new.baton (client_count g.N.Naming.start) g.Q.ServerPost.gets_ask g.Q.ServerPost.asks_empty
    c.args.stock.now c.take_waiting.new.stock c.do_request-2.new.stock coming (all_said c.args.answers.now.items) (all_said c.do_request-2.new.answers.items) c.args.waiting.now.items c.take_waiting.new.waiting.items c.do_request-2.new.waiting.items
    c.in-Some-take_ask.request c.args.post.now c.take_ask.new.self c.do_request-2.new.post c.do_request-2.result none.0 none.1 none.2 c.in-Some-take_ask.ensures.taken (c.do_request-2.ensures.done coming)))

pub returns-then-len-capacity-clause-done : goal.returns-then-len-capacity-clause-done
returns-then-len-capacity-clause-done g c = λ coming.
    let k = client_count g.N.Naming.start in
    let kept = c.args.answers.now in
    let full : deque_capacity kept ≤ deque_len kept = let m = c.if-len-capacity.true in let l = c.len.ensures in let r = c.capacity.ensures in omega (arith, m, l, r) in
    inr (inr (inr (of_full g.Q.ServerPost.answers g.Q.ServerPost.same g.Q.ServerPost.answers_full g.N.Naming.start.is_visible (g.T.Turns.tells c.args.door.now) (g.T.Turns.tells c.args.door.now) c.args.baton.now c.args.baton.now k g.Q.ServerPost.gets_ask g.Q.ServerPost.asks_empty
    c.args.stock.now c.args.stock.now coming (all_said kept.items) c.args.waiting.now.items c.args.waiting.now.items c.args.post.now (inl (full_of_answers k (deque_len kept) (deque_capacity kept) kept.items kept.ok.0 c.requires.answers full)) refl refl)))

pub returns-then-len-capacity-2-clause-done : goal.returns-then-len-capacity-2-clause-done
returns-then-len-capacity-2-clause-done g c = λ coming.
    let k = client_count g.N.Naming.start in
    let none = c.in_default.ensures.taken in
    let w = c.take_waiting.new.waiting in
    let full : deque_capacity w ≤ deque_len w = let m = c.if-len-capacity-2.true in let l = c.len-2.ensures in let r = c.capacity-2.ensures in omega (arith, m, l, r) in
    let each : k ≤ deque_capacity w = let has = c.requires.waiting in let e = has.each in let s = c.take_waiting.ensures.capacity in omega (arith, e, s) in
    let many : k ≤ length w.items = let o = w.ok.0 in omega (arith, full, each, o) in
    inr (inr (inr (of_full g.Q.ServerPost.answers g.Q.ServerPost.same g.Q.ServerPost.answers_full g.N.Naming.start.is_visible (g.T.Turns.tells c.args.door.now) (g.T.Turns.tells c.args.door.now) c.args.baton.now c.args.baton.now k g.Q.ServerPost.gets_ask g.Q.ServerPost.asks_empty
    c.args.stock.now c.take_waiting.new.stock coming (all_said c.args.answers.now.items) c.args.waiting.now.items w.items c.args.post.now (inr (subst (λ (xs : List Waits). k ≤ length xs) none.1 many, none.0)) none.1 none.2)))

pub returns-in-Some-clause-raised : goal.returns-in-Some-clause-raised
returns-in-Some-clause-raised g c = c.do_request.ensures.raised

pub returns-in_default-take_ask-clause-raised : goal.returns-in_default-take_ask-clause-raised
returns-in_default-take_ask-clause-raised g c = raises_still (g.T.Turns.tells c.args.door.now) (most_raised g.N.Naming.start.geometry)

pub returns-clause-raised : goal.returns-clause-raised
returns-clause-raised g c = c.do_request-2.ensures.raised

pub returns-then-len-capacity-clause-raised : goal.returns-then-len-capacity-clause-raised
returns-then-len-capacity-clause-raised g c = raises_still (g.T.Turns.tells c.args.door.now) (most_raised g.N.Naming.start.geometry)

pub returns-then-len-capacity-2-clause-raised : goal.returns-then-len-capacity-2-clause-raised
returns-then-len-capacity-2-clause-raised g c = raises_still (g.T.Turns.tells c.args.door.now) (most_raised g.N.Naming.start.geometry)
