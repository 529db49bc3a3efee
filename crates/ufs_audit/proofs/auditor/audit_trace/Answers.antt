use Rattle.std.proofs.Common.{◌≡◌, ◌≤◌, ◌+◌, ◌^◌, ◌<◌, ◌++◌, ◌∷◌, [], ℕ, List, Option, Some, None, Ok, sym, subst, ap, ◌∙◌, length, arith, inl, inr, refl, false, true, rules}
use Rattle.ufs_audit.specs.Following.{IsStep}
use Rattle.ufs_audit.specs.Ends.{IsEndOf}
use Rattle.ufs_audit.specs.declared.verdict.Wrong.{Wrong}
use Rattle.ufs_audit.proofs.FollowLemmas.{few_entries}
use Rattle.ufs_audit.proofs.ReadLemmas.{passes_on, text_smaller}
use Rattle.ufs_audit.proofs.TraceLemmas.{streamed_begins, streamed_more, streamed_wrong, streamed_ends, ticket_is, ticket_few, front_is}
use Rattle.ufs_audit.proofs.auditor.audit_trace.Goals as goal

pub loop-front-init : goal.loop-front-init
loop-front-init g c =
    let left = g.S.Source.left in
    record {
      same = c.in_ok-line.ensures.counted (λ bad. cc);
      streamed = streamed_begins c.a_line_tells_one_thing.ensures c.args.tree c.args.clients.now c.args.answers.now c.requires.few (left c.args.source.now) (left c.text_line.new.source) c.args.ahead.now c.text_line.new.ahead c.args.room.now c.text_line.new.room
          c.in_ok-line.line.items c.in_ok-state.state.tree c.in_ok-state.state.counts.items c.in_ok-state.state.faults.keys c.in_ok-line.ensures.line c.in_ok-state.ensures;
    }

pub step-requires-clause-numbers : goal.step-requires-clause-numbers
step-requires-clause-numbers g c =
    let s = c.loop-front.invariant.streamed in
    let few = few_entries c.args.tree c.args.clients.now s.history c.loop-front.state.tree c.loop-front.state.counts.items c.loop-front.state.faults.keys s.stands c.requires.few in
    let next = s.stands.next in
    let start = c.requires.numbers in
    omega (arith, few, next, start)

pub step-requires-clause-many : goal.step-requires-clause-many
step-requires-clause-many g c = c.loop-front.invariant.streamed.stands.many

pub step-requires-clause-whole : goal.step-requires-clause-whole
step-requires-clause-whole g c =
    let s = c.loop-front.invariant.streamed in
    front_is (g.S.Source.left c.loop-front.source) c.loop-front.ahead c.loop-front.line.items c.in-Some.front.now s.stops (sym c.as_slice.ensures.value ∙ c.in-Some.ensures.some)

pub returns-in-Some-2-clause-verdict : goal.returns-in-Some-2-clause-verdict
returns-in-Some-2-clause-verdict g c =
    let left = g.S.Source.left in
    let s = c.loop-front.invariant.streamed in
    let ticket = ticket_is c.a_line_tells_one_thing.ensures c.args.tree c.args.clients.now c.args.answers.now c.requires.few (left c.args.source.now) (left c.loop-front.source) c.args.ahead.now c.loop-front.ahead c.args.room.now c.loop-front.room
    c.loop-front.ticket c.loop-front.line.items c.loop-front.state.tree c.loop-front.state.counts.items c.loop-front.state.faults.keys s in
    streamed_wrong c.a_line_tells_one_thing.ensures c.args.tree c.args.clients.now c.args.answers.now c.requires.few (left c.args.source.now) (left c.loop-front.source) c.args.ahead.now c.loop-front.ahead c.args.room.now c.loop-front.room
    c.loop-front.ticket c.loop-front.line.items c.loop-front.state.tree c.loop-front.state.counts.items c.loop-front.state.faults.keys s
    c.in-Some.front.now c.in-Some-2.cause c.step.new.self.tree c.step.new.self.counts.items c.step.new.self.faults.keys (sym c.as_slice.ensures.value ∙ c.in-Some.ensures.some)
    (subst (λ (w : Option Wrong). IsStep c.args.tree c.args.clients.now c.args.answers.now s.history c.in-Some.front.now c.step.new.self.tree c.step.new.self.counts.items c.step.new.self.faults.keys w) c.in-Some-2.is
    (c.in_ok-cause.ensures c.args.tree s.history s.stands ticket))

pub returns-in_err-line-2-clause-long : goal.returns-in_err-line-2-clause-long
returns-in_err-line-2-clause-long g c is =
    let left = g.S.Source.left in
    let s = c.loop-front.invariant.streamed in
    passes_on (left c.args.source.now) (left c.loop-front.source) (left c.text_line-in-Some.new.source) c.args.ahead.now c.loop-front.ahead c.text_line-in-Some.new.ahead c.args.room.now c.loop-front.room
    (s.seen ++ c.loop-front.line.items) s.reads (c.in_err-line-2.ensures.long (search rules))

pub loop-front-preserved : goal.loop-front-preserved
loop-front-preserved g c =
    let left = g.S.Source.left in
    let s = c.loop-front.invariant.streamed in
    let ticket = ticket_is c.a_line_tells_one_thing.ensures c.args.tree c.args.clients.now c.args.answers.now c.requires.few (left c.args.source.now) (left c.loop-front.source) c.args.ahead.now c.loop-front.ahead c.args.room.now c.loop-front.room
    c.loop-front.ticket c.loop-front.line.items c.loop-front.state.tree c.loop-front.state.counts.items c.loop-front.state.faults.keys s in
    record {
      same = c.in_ok-line-2.ensures.counted (λ bad. cc) ∙ c.loop-front.invariant.same;
      streamed = streamed_more c.a_line_tells_one_thing.ensures c.args.tree c.args.clients.now c.args.answers.now c.requires.few (left c.args.source.now) (left c.loop-front.source) c.args.ahead.now c.loop-front.ahead c.args.room.now c.loop-front.room
          c.loop-front.ticket c.loop-front.line.items c.loop-front.state.tree c.loop-front.state.counts.items c.loop-front.state.faults.keys s
          c.in-Some.front.now (left c.text_line-in-Some.new.source) c.text_line-in-Some.new.ahead c.text_line-in-Some.new.room c.in_ok-line-2.line.items c.step.new.self.tree c.step.new.self.counts.items c.step.new.self.faults.keys (sym c.as_slice.ensures.value ∙ c.in-Some.ensures.some)
          (subst (λ (w : Option Wrong). IsStep c.args.tree c.args.clients.now c.args.answers.now s.history c.in-Some.front.now c.step.new.self.tree c.step.new.self.counts.items c.step.new.self.faults.keys w) c.in_default-2.is
          (c.in_ok-cause.ensures c.args.tree s.history s.stands ticket))
          c.in_ok-line-2.ensures.line;
    }

pub loop-front-smaller : goal.loop-front-smaller
loop-front-smaller g c =
    let left = g.S.Source.left in
    text_smaller (left c.loop-front.source) (left c.text_line-in-Some.new.source) c.loop-front.ahead c.text_line-in-Some.new.ahead c.loop-front.room c.text_line-in-Some.new.room c.loop-front.line.items c.in_ok-line-2.line.items c.in-Some.front.now
    (sym c.as_slice.ensures.value ∙ c.in-Some.ensures.some) c.in_ok-line-2.ensures.line

pub returns-clause-verdict : goal.returns-clause-verdict
returns-clause-verdict g c =
    let left = g.S.Source.left in
    let s = c.loop-front.invariant.streamed in
    streamed_ends c.a_line_tells_one_thing.ensures c.args.tree c.args.clients.now c.args.answers.now c.requires.few (left c.args.source.now) (left c.loop-front.source) c.args.ahead.now c.loop-front.ahead c.args.room.now c.loop-front.room
    c.loop-front.ticket c.loop-front.line.items c.loop-front.state.tree c.loop-front.state.counts.items c.loop-front.state.faults.keys s
    c.verdict_at_end.result (λ front is. c.in_default.ensures.none refl front (c.as_slice.ensures.value ∙ is)) (subst (λ (l : List ℕ). IsEndOf c.args.clients.now s.history c.loop-front.ticket l c.verdict_at_end.result) c.as_slice-2.ensures.value (c.verdict_at_end.ensures c.args.tree s.history s.stands))

pub overflow_add-ticket : goal.overflow_add-ticket
overflow_add-ticket g c =
    let left = g.S.Source.left in
    let few = ticket_few c.a_line_tells_one_thing.ensures c.args.tree c.args.clients.now c.args.answers.now c.requires.few (left c.args.source.now) (left c.loop-front.source) c.args.ahead.now c.loop-front.ahead c.args.room.now c.loop-front.room
    c.loop-front.ticket c.loop-front.line.items c.loop-front.state.tree c.loop-front.state.counts.items c.loop-front.state.faults.keys c.loop-front.invariant.streamed in
    omega (arith, few)
