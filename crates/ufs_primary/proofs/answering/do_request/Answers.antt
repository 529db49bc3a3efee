use Rattle.std.proofs.Common.{◌≤◌, ap, arith, inl, inr, refl, subst, sym, ◌∙◌}
use Rattle.ufs_at_primary.proofs.OfBaton.{drawn_with}
use Rattle.ufs_msg.specs.Requests.{Asked}
use Rattle.ufs_at_primary.specs.OfServing.{all_said, said}
use Rattle.ufs_at_primary.specs.Excused.{IsOpened}
use Rattle.ufs_at_primary.specs.Served.{IsTried, IsTriedSince}
use Rattle.ufs_at_primary.proofs.Excuses.{opened_away}
use Rattle.ufs_primary.specs.Primary.{primary_of}
use Rattle.ufs_primary.specs.declared.turn.PrimaryTurn.TheVariants as turn
use Rattle.ufs_primary.proofs.Doing.{done_as, is_redirected, is_served, is_unnoted, is_waiting, lent_still}
use Rattle.ufs_told.specs.Numbers.{most_raised}
use Rattle.ufs_at_primary.proofs.Raised.{raises_rests, raises_then}
use Rattle.ufs_primary.proofs.answering.do_request.Goals as goal

pub returns-in-Answered-clause-done : goal.returns-in-Answered-clause-done
returns-in-Answered-clause-done g c = λ coming.
    let visible = g.N.Naming.start.is_visible in
    let before = g.T.Turns.tells c.args.door.now in
    let after = g.T.Turns.tells c.serve.new.door in
    let q = c.lend-request.result in
    let l = c.lend-request.ensures in
    let had = c.args.baton.now in
    let has = c.follow-answer.new.self in
    let a = c.in-Answered.answer in
    let is = subst (IsTried visible before after c.args.stock.now c.serve.new.self q) c.in-Answered.is c.serve.ensures.tried in
    let since = subst (IsTriedSince q.hand.seen) c.in-Answered.is c.serve.ensures.drawn in
    let old = all_said c.args.answers.now.items in
    let new = all_said c.say.new.answers.items in
    done_as g.Q.ServerPost.answers g.Q.ServerPost.same g.Q.ServerPost.answers_full visible before after had has (primary_of c.args.stock.now coming old c.args.waiting.now.items) (primary_of c.serve.new.self coming new c.args.waiting.now.items) c.args.request q c.args.post.now c.say.new.post turn.Served
    (lent_still c.args.request q had l.ask l.leases_back l.hand)
    (is_served g.Q.ServerPost.answers g.Q.ServerPost.same g.Q.ServerPost.answers_full visible before after had has c.args.stock.now c.serve.new.self coming old new c.args.waiting.now.items c.args.waiting.now.items q (said c.follow-answer.result) c.args.post.now c.say.new.post is.0 (ap said (c.follow-answer.ensures.same ∙ is.1)) (inl is.2)
    (drawn_with a is.0 had q.hand.seen has is.1 since (let h = l.hand in h.seen) (c.follow-answer.ensures.seen is.0 is.1)) refl c.say.ensures.goes)

pub returns-in-Answered-clause-store : goal.returns-in-Answered-clause-store
returns-in-Answered-clause-store g c = λ no. absurd (no refl)

pub returns-in-Answered-clause-seen : goal.returns-in-Answered-clause-seen
returns-in-Answered-clause-seen g c = λ no. absurd (no refl)

pub returns-in-Redirected-clause-done : goal.returns-in-Redirected-clause-done
returns-in-Redirected-clause-done g c = λ coming.
    let visible = g.N.Naming.start.is_visible in
    let before = g.T.Turns.tells c.args.door.now in
    let after = g.T.Turns.tells c.serve.new.door in
    let q = c.lend-request.result in
    let l = c.lend-request.ensures in
    let had = c.args.baton.now in
    let has = c.lend-request.new.self in
    let is = subst (IsTried visible before after c.args.stock.now c.serve.new.self q) c.in-Redirected.is c.serve.ensures.tried in
    let old = all_said c.args.answers.now.items in
    let new = all_said c.say-in-Redirected.new.answers.items in
    done_as g.Q.ServerPost.answers g.Q.ServerPost.same g.Q.ServerPost.answers_full visible before after had has (primary_of c.args.stock.now coming old c.args.waiting.now.items) (primary_of c.serve.new.self coming new c.args.waiting.now.items) c.args.request q c.args.post.now c.say-in-Redirected.new.post (turn.Redirected c.in-Redirected.file)
    (lent_still c.args.request q had l.ask l.leases_back l.hand)
    (is_redirected g.Q.ServerPost.answers g.Q.ServerPost.same g.Q.ServerPost.answers_full visible before after had has c.args.stock.now c.serve.new.self coming old new c.args.waiting.now.items q c.in-Redirected.answer c.in-Redirected.file c.args.post.now c.say-in-Redirected.new.post is.0 is.1 c.say-in-Redirected.ensures.goes)

pub returns-in-Redirected-clause-store : goal.returns-in-Redirected-clause-store
returns-in-Redirected-clause-store g c = λ _.
    let is = subst (IsTried g.N.Naming.start.is_visible (g.T.Turns.tells c.args.door.now) (g.T.Turns.tells c.serve.new.door) c.args.stock.now c.serve.new.self c.lend-request.result) c.in-Redirected.is c.serve.ensures.tried in
    is.2

pub returns-in-Ok-clause-done : goal.returns-in-Ok-clause-done
returns-in-Ok-clause-done g c = λ coming.
    let visible = g.N.Naming.start.is_visible in
    let before = g.T.Turns.tells c.args.door.now in
    let after = g.T.Turns.tells c.serve.new.door in
    let q = c.lend-request.result in
    let l = c.lend-request.ensures in
    let had = c.args.baton.now in
    let has = c.lend-request.new.self in
    let is = subst (IsTried visible before after c.args.stock.now c.serve.new.self q) c.in-Away.is c.serve.ensures.tried in
    let old = all_said c.args.answers.now.items in
    done_as g.Q.ServerPost.answers g.Q.ServerPost.same g.Q.ServerPost.answers_full visible before after had has (primary_of c.args.stock.now coming old c.args.waiting.now.items) (primary_of c.put_off.new.stock coming old c.put_off.new.waiting.items) c.args.request q c.args.post.now c.args.post.now (turn.Waiting c.in-Away.file)
    (lent_still c.args.request q had l.ask l.leases_back l.hand)
    (is_waiting g.Q.ServerPost.answers g.Q.ServerPost.same g.Q.ServerPost.answers_full visible before after had has c.args.stock.now c.serve.new.self c.put_off.new.stock coming old c.args.waiting.now.items c.put_off.new.waiting.items q c.in-Away.request c.in-Away.file c.args.post.now is.0 is.1 is.2 c.in-Ok.ensures.put c.put_off.ensures.rest)

pub returns-in-Ok-clause-store : goal.returns-in-Ok-clause-store
returns-in-Ok-clause-store g c = λ _.
    let is = subst (IsTried g.N.Naming.start.is_visible (g.T.Turns.tells c.args.door.now) (g.T.Turns.tells c.serve.new.door) c.args.stock.now c.serve.new.self c.lend-request.result) c.in-Away.is c.serve.ensures.tried in
    is.3

pub excuse-answer-requires : goal.excuse-answer-requires
excuse-answer-requires g c =
    let visible = g.N.Naming.start.is_visible in
    let before = g.T.Turns.tells c.args.door.now in
    let mid = g.T.Turns.tells c.serve.new.door in
    let q = c.lend-request.result in
    let is = subst (IsTried visible before mid c.args.stock.now c.serve.new.self q) c.in-Away.is c.serve.ensures.tried in
    let still = is.0 in
    record { opened = subst IsOpened (sym (ap (λ (r : Asked). r.ask) c.in-Err.ensures.back ∙ still.ask)) (opened_away c.args.stock.now q.ask c.in-Away.file is.1) }

pub returns-in-Err-clause-done : goal.returns-in-Err-clause-done
returns-in-Err-clause-done g c = λ coming.
    let visible = g.N.Naming.start.is_visible in
    let before = g.T.Turns.tells c.args.door.now in
    let mid = g.T.Turns.tells c.serve.new.door in
    let after = g.T.Turns.tells c.excuse-answer.new.door in
    let q = c.lend-request.result in
    let l = c.lend-request.ensures in
    let had = c.args.baton.now in
    let has = c.follow-answer-in-Err.new.self in
    let is = subst (IsTried visible before mid c.args.stock.now c.serve.new.self q) c.in-Away.is c.serve.ensures.tried in
    let away : q.hand.seen ≤ c.in-Away.request.hand.seen = subst (IsTriedSince q.hand.seen) c.in-Away.is c.serve.ensures.drawn in
    let e = c.in-Err.ensures in
    let x = c.excuse-answer.ensures.excused in
    let h = l.hand in
    let lent = h.seen in
    let back : had ≤ c.in-Err.back.hand.seen = subst (λ (r : Asked). had ≤ r.hand.seen) (sym e.back) (omega (arith, lent, away)) in
    let old = all_said c.args.answers.now.items in
    let new = all_said c.say-in-Err.new.answers.items in
    done_as g.Q.ServerPost.answers g.Q.ServerPost.same g.Q.ServerPost.answers_full visible before after had has (primary_of c.args.stock.now coming old c.args.waiting.now.items) (primary_of c.excuse-answer.new.self coming new c.put_off.new.waiting.items) c.args.request q c.args.post.now c.say-in-Err.new.post turn.Served
    (lent_still c.args.request q had l.ask l.leases_back l.hand)
    (is_served g.Q.ServerPost.answers g.Q.ServerPost.same g.Q.ServerPost.answers_full visible before after had has c.args.stock.now c.excuse-answer.new.self coming old new c.args.waiting.now.items c.put_off.new.waiting.items q (said c.follow-answer-in-Err.result) c.args.post.now c.say-in-Err.new.post x.0 (ap said (c.follow-answer-in-Err.ensures.same ∙ x.1))
    (inr (is_unnoted g.Q.ServerPost.answers g.Q.ServerPost.same g.Q.ServerPost.answers_full visible before after had has c.args.stock.now c.serve.new.self c.put_off.new.stock c.excuse-answer.new.self mid q c.in-Away.request c.in-Err.back c.in-Away.file x.0 is.0 is.1 is.2 is.3 e.unnoted c.put_off.ensures.rest e.back x.2 c.excuse-answer.ensures.rest))
    (drawn_with c.excuse-answer.result x.0 had c.in-Err.back.hand.seen has x.1 c.excuse-answer.ensures.drawn back (c.follow-answer-in-Err.ensures.seen x.0 x.1)) e.same c.say-in-Err.ensures.goes)

pub returns-in-Err-clause-store : goal.returns-in-Err-clause-store
returns-in-Err-clause-store g c = λ no. absurd (no refl)

pub returns-in-Err-clause-seen : goal.returns-in-Err-clause-seen
returns-in-Err-clause-seen g c = λ no. absurd (no refl)

pub returns-in-Answered-clause-raised : goal.returns-in-Answered-clause-raised
returns-in-Answered-clause-raised g c = c.serve.ensures.raised

pub returns-in-Redirected-clause-raised : goal.returns-in-Redirected-clause-raised
returns-in-Redirected-clause-raised g c = c.serve.ensures.raised

pub returns-in-Ok-clause-raised : goal.returns-in-Ok-clause-raised
returns-in-Ok-clause-raised g c = c.serve.ensures.raised

pub returns-in-Err-clause-raised : goal.returns-in-Err-clause-raised
returns-in-Err-clause-raised g c =
    let had = g.T.Turns.tells c.args.door.now in
    let mid = g.T.Turns.tells c.serve.new.door in
    let has = g.T.Turns.tells c.excuse-answer.new.door in
    let most = most_raised g.N.Naming.start.geometry in
    let x = c.excuse-answer.ensures.excused in
    let excused = x.2 in
    raises_then had mid has most 0 most (omega arith) c.serve.ensures.telling c.serve.ensures.raised (raises_rests mid has 0 excused.rests)
