use Rattle.std.proofs.Common.{◌≡◌, ◌∙◌, [], ℕ, List, Err, Bool, sym, subst, ap, refl, true, false, rules}
use Rattle.ufs_model.specs.PosixTree.{PosixTree}
use Rattle.ufs_model.specs.declared.data.Op.{Op}
use Rattle.ufs_audit.specs.Audit.{IsVerdict}
use Rattle.ufs_audit.specs.Sources.{max_text}
use Rattle.ufs_audit.specs.Ends.{HasScriptHead, TextVerdict}
use Rattle.ufs_audit.proofs.HeadLemmas.{open_verdict, closed_verdict, closed_long}
use Rattle.ufs_audit.specs.declared.fault.AuditFault.TheVariants as fault
use Rattle.ufs_audit.proofs.CauseLemmas.{told_is, long_of, no_script}
use Rattle.ufs_audit.proofs.auditor.audit.Goals as goal

pub returns-then-not-head-clause-verdict : goal.returns-then-not-head-clause-verdict
returns-then-not-head-clause-verdict g c =
    let left = g.S.Source.left in
    let script = c.in_ok-head.head.script in
    let verdict = c.in_ok-verdict.verdict in
    open_verdict _ (left c.args.source.now) (left c.read_script_head.new.source) c.read_script_head.new.ahead script verdict
    (subst (λ (closed : Bool). HasScriptHead (left c.args.source.now) (left c.read_script_head.new.source) c.read_script_head.new.ahead script closed) c.if-not-head.true c.in_ok-head.ensures.script)
    (subst (λ (start : PosixTree). IsVerdict start script.clients [] verdict) c.in_ok-tree.ensures.start
    (subst (λ (clients : List (List Op)). IsVerdict c.in_ok-tree.tree clients [] verdict) c.as_slice-clients.ensures.value c.in_ok-verdict.ensures.verdict))

pub returns-in_err-verdict-2-clause-long : goal.returns-in_err-verdict-2-clause-long
returns-in_err-verdict-2-clause-long g c = λ is.
    let left = g.S.Source.left in
    let script = c.in_ok-head.head.script in
    let e = c.in_err-verdict-2.field-0.0 in
    let told = told_is c.from_residual-in_err-verdict-2.result e c.from_residual-in_err-verdict-2.ensures.1 fault.TextTooLong is in
    closed_long (left c.args.source.now) (left c.read_script_head.new.source) (left c.audit_text.new.source) c.read_script_head.new.ahead c.audit_text.new.ahead script
    (subst (λ (closed : Bool). HasScriptHead (left c.args.source.now) (left c.read_script_head.new.source) c.read_script_head.new.ahead script closed) c.if-not-head.false c.in_ok-head.ensures.script)
    (c.in_err-verdict-2.ensures.long (ap Err (long_of e told)))

pub returns-in_err-verdict-2-clause-broken : goal.returns-in_err-verdict-2-clause-broken
returns-in_err-verdict-2-clause-broken g c = λ broken is.
    let e = c.in_err-verdict-2.field-0.0 in
    absurd (no_script e broken (told_is c.from_residual-in_err-verdict-2.result e c.from_residual-in_err-verdict-2.ensures.1 (fault.Script broken) is))

pub returns-in_err-verdict-2-clause-inside : goal.returns-in_err-verdict-2-clause-inside
returns-in_err-verdict-2-clause-inside g c = λ broken is.
    let e = c.in_err-verdict-2.field-0.0 in
    absurd (no_script e broken (told_is c.from_residual-in_err-verdict-2.result e c.from_residual-in_err-verdict-2.ensures.1 (fault.Script broken) is))

pub returns-clause-verdict : goal.returns-clause-verdict
returns-clause-verdict g c =
    let left = g.S.Source.left in
    let script = c.in_ok-head.head.script in
    let verdict = c.in_ok-verdict-2.verdict in
    closed_verdict _ (left c.args.source.now) (left c.read_script_head.new.source) (left c.audit_text.new.source) c.read_script_head.new.ahead c.audit_text.new.ahead script verdict
    (subst (λ (closed : Bool). HasScriptHead (left c.args.source.now) (left c.read_script_head.new.source) c.read_script_head.new.ahead script closed) c.if-not-head.false c.in_ok-head.ensures.script)
    (subst (λ (start : PosixTree). TextVerdict start script.clients (left c.read_script_head.new.source) (left c.audit_text.new.source) c.read_script_head.new.ahead c.audit_text.new.ahead max_text verdict) c.in_ok-tree.ensures.start
    (subst (λ (clients : List (List Op)). TextVerdict c.in_ok-tree.tree clients (left c.read_script_head.new.source) (left c.audit_text.new.source) c.read_script_head.new.ahead c.audit_text.new.ahead max_text verdict) c.as_slice-clients.ensures.value c.in_ok-verdict-2.ensures.verdict))
