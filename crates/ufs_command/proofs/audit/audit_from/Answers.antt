use Rattle.std.proofs.Common.{Err, ap, refl}
use Rattle.ufs_audit.specs.declared.fault.AuditFault.{AuditFault}
use Rattle.ufs_model.specs.Start.{start_of}
use Rattle.ufs_command.specs.Audits.{EndsAudited, TellsNoVerdict, verdict_ending, verdict_line}
use Rattle.ufs_command.specs.Seen.{reading, writing}
use Rattle.ufs_command.proofs.AnswerLemmas.{answer_line, answer_map}
use Rattle.ufs_command.proofs.AuditLemmas.{source_silent, unaudited, unaudited_told, verdict_told}
use Rattle.ufs_command.proofs.audit.audit_from.Goals as goal

pub returns-in-Ok-clause-answer : goal.returns-in-Ok-clause-answer
returns-in-Ok-clause-answer g c =
    let r = reading g.S.Source.left g.S.Source.faults c.args.source.now c.audit.new.source in
    let start = start_of c.args.start.now in
    let v = c.in-Ok.verdict in
    answer_line (EndsAudited start r) (verdict_ending v) (verdict_line v) (writing g.K.Sink.held g.K.Sink.faults c.args.sink.now c.tell_verdict.new.sink) c.tell_verdict.result
    (verdict_told start r v (c.in-Ok.ensures.counted (λ e. cc)) c.in-Ok.ensures.verdict) c.tell_verdict.ensures

pub tell_unaudited-requires : goal.tell_unaudited-requires
tell_unaudited-requires g c broken is = c.in-Err.ensures.inside broken (ap (λ (x : AuditFault). Err x) is)

pub returns-in-Err-clause-answer : goal.returns-in-Err-clause-answer
returns-in-Err-clause-answer g c =
    let r = reading g.S.Source.left g.S.Source.faults c.args.source.now c.audit.new.source in
    let start = start_of c.args.start.now in
    let f = c.in-Err.fault in
    answer_map (TellsNoVerdict f) (EndsAudited start r) (writing g.K.Sink.held g.K.Sink.faults c.args.sink.now c.tell_unaudited.new.sink) c.tell_unaudited.result
    (unaudited_told start r f (unaudited r f (Err f) refl c.in-Err.ensures.cause c.in-Err.ensures.counted c.in-Err.ensures.long c.in-Err.ensures.broken c.in-Err.ensures.inside)) c.tell_unaudited.ensures.answer

pub returns-in-Err-clause-source_told : goal.returns-in-Err-clause-source_told
returns-in-Err-clause-source_told g c =
    let r = reading g.S.Source.left g.S.Source.faults c.args.source.now c.audit.new.source in
    let f = c.in-Err.fault in
    source_silent r f c.tell_unaudited.result (unaudited r f (Err f) refl c.in-Err.ensures.cause c.in-Err.ensures.counted c.in-Err.ensures.long c.in-Err.ensures.broken c.in-Err.ensures.inside) c.tell_unaudited.ensures.told
