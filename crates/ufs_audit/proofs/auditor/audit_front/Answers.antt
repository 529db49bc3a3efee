use Rattle.std.proofs.Common.{◌≡◌, ◌∙◌, ℕ, List, Option, Some, None, refl, sym, ap, subst, rules}
use Rattle.std.specs.Option.{option_map}
use Rattle.ufs_base.specs.Faults.{raised}
use Rattle.ufs_audit.specs.Audit.{text_of}
use Rattle.std.specs.List.{flat_map}
use Rattle.ufs_audit.specs.Ends.{AllAnswers, TraceVerdict}
use Rattle.ufs_audit.proofs.ReadLemmas.{passes_on}
use Rattle.ufs_lines.proofs.Results.{if_ok}
use Rattle.ufs_audit.proofs.TraceLemmas.{front_verdict, lacks_so_far}
use Rattle.ufs_audit.proofs.auditor.audit_front.Goals as goal

pub returns-in_default-clause-verdict : goal.returns-in_default-clause-verdict
returns-in_default-clause-verdict g c =
    let left = g.S.Source.left in
    let lacks = subst (λ (o : Option (List (List (List ℕ)))). AllAnswers (left c.args.source.now) (left c.read_answers.new.source) c.args.ahead.now c.read_answers.new.ahead c.args.room.now c.read_answers.new.room c.args.clients.now o)
    (ap (option_map (λ l. l.items)) c.in_default.is) c.in_ok-answers.ensures.found in
    lacks_so_far c.args.tree c.args.clients.now (left c.args.source.now) (left c.read_answers.new.source) c.args.ahead.now c.read_answers.new.ahead c.args.room.now c.read_answers.new.room lacks.0 lacks.1 lacks.2

pub returns-clause-long : goal.returns-clause-long
returns-clause-long g c = λ is.
    let left = g.S.Source.left in
    let own = subst (λ (o : Option (List (List (List ℕ)))). AllAnswers (left c.args.source.now) (left c.read_answers.new.source) c.args.ahead.now c.read_answers.new.ahead c.args.room.now c.read_answers.new.room c.args.clients.now o)
    (ap (option_map (λ l. l.items)) c.in-Some.is) c.in_ok-answers.ensures.found in
    passes_on (left c.args.source.now) (left c.read_answers.new.source) (left c.audit_trace.new.source) c.args.ahead.now c.read_answers.new.ahead c.audit_trace.new.ahead c.args.room.now c.read_answers.new.room
    (flat_map text_of c.in-Some.answers.items) own.0 (c.audit_trace.ensures.long is)

pub returns-clause-verdict : goal.returns-clause-verdict
returns-clause-verdict g c =
    let left = g.S.Source.left in
    let own = subst (λ (o : Option (List (List (List ℕ)))). AllAnswers (left c.args.source.now) (left c.read_answers.new.source) c.args.ahead.now c.read_answers.new.ahead c.args.room.now c.read_answers.new.room c.args.clients.now o)
    (ap (option_map (λ l. l.items)) c.in-Some.is) c.in_ok-answers.ensures.found in
    if_ok c.audit_trace.result
    (λ v trace. front_verdict c.args.tree c.args.clients.now c.in-Some.answers.items (left c.args.source.now) (left c.read_answers.new.source) (left c.audit_trace.new.source)
    c.args.ahead.now c.read_answers.new.ahead c.audit_trace.new.ahead c.args.room.now c.read_answers.new.room c.audit_trace.new.room v own.0 own.1
    (subst (λ (l : List (List (List ℕ))). TraceVerdict c.args.tree c.args.clients.now l (left c.read_answers.new.source) (left c.audit_trace.new.source) c.read_answers.new.ahead c.audit_trace.new.ahead c.read_answers.new.room c.audit_trace.new.room v) c.as_slice.ensures.value trace))
    c.audit_trace.ensures.verdict
