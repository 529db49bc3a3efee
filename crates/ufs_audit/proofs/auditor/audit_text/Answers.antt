use Rattle.std.proofs.Common.{◌≡◌, ℕ, List, sym, subst, ◌∙◌, refl, rules}
use Rattle.ufs_audit.proofs.ReadLemmas.{passes_on}
use Rattle.ufs_audit.proofs.TraceLemmas.{text_verdict}
use Rattle.ufs_audit.proofs.auditor.audit_text.Goals as goal

pub returns-in_err-read_rest-clause-long : goal.returns-in_err-read_rest-clause-long
returns-in_err-read_rest-clause-long g c is =
    let left = g.S.Source.left in
    let front = c.in_ok-verdict.ensures.verdict in
    passes_on (left c.args.source.now) (left c.audit_front.new.source) (left c.read_rest.new.source) c.args.ahead.now c.audit_front.new.ahead c.read_rest.new.ahead 268435456 c.audit_front.new.room
    front.0 front.1 (c.in_err-read_rest.ensures.long (search rules))

pub returns-clause-verdict : goal.returns-clause-verdict
returns-clause-verdict g c =
    let left = g.S.Source.left in
    text_verdict c.args.tree c.args.clients.now (left c.args.source.now) (left c.audit_front.new.source) (left c.read_rest.new.source) c.args.ahead.now c.audit_front.new.ahead c.read_rest.new.ahead 268435456 c.audit_front.new.room c.read_rest.new.room
    c.in_ok-verdict.verdict c.in_ok-verdict.ensures.verdict c.in_ok-read_rest.ensures.rest
